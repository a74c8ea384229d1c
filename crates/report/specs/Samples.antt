-- The sample tower of document 01 and its examples, each text beside the lines that the document gives. Assumes nothing.
use Rattle.std.specs.Prelude.{List, [], ◌∷◌, ℕ}
use Rattle.reader.specs.Bytes.{bytes}
use Rattle.tables.specs.Sample.{tower}

-- "lends a plan of 65,536 bytes and 16,384 table entries"
abbrev pub table_entries : ℕ
table_entries = 16384

abbrev pub plan_size : ℕ
plan_size = 65536

pub record Sample : Type 0 where
  pub text : List ℕ
  pub lines : List ℕ

abbrev prints : List ℕ → List ℕ → Sample
prints t l = record { text = t; lines = l }

-- "prints exactly: value=4/answer=found/cost=4/count=7/plan=0,1,3,254,2,3,254"
abbrev found_seven : List ℕ
found_seven = bytes "value=4\nanswer=found\ncost=4\ncount=7\nplan=0,1,3,254,2,3,254\n"

-- One theorem for the list: proofs/Sample, samples_print.
unfoldable pub samples : List Sample
samples =
    prints (tower (bytes "eff=0:3") (bytes "eff=1:1") (bytes "limit=32") (bytes "budget=100")) found_seven ∷
    -- "Budget 7: found." "Budget 6 prints value=4/answer=spent/round=4/count=6."
    prints (tower (bytes "eff=0:3") (bytes "eff=1:1") (bytes "limit=32") (bytes "budget=7")) found_seven ∷
    prints (tower (bytes "eff=0:3") (bytes "eff=1:1") (bytes "limit=32") (bytes "budget=6")) (bytes "value=4\nanswer=spent\nround=4\ncount=6\n") ∷
    -- "limit=3: over, count 0." "limit=256 now gives its 3 at 23" (document 02, item 3), and 33 is a limit.
    prints (tower (bytes "eff=0:3") (bytes "eff=1:1") (bytes "limit=3") (bytes "budget=100")) (bytes "value=4\nanswer=over\ncount=0\n") ∷
    prints (tower (bytes "eff=0:3") (bytes "eff=1:1") (bytes "limit=33") (bytes "budget=100")) found_seven ∷
    prints (tower (bytes "eff=0:3") (bytes "eff=1:1") (bytes "limit=256") (bytes "budget=100")) (bytes "refused=3\nat=23\n") ∷
    -- "eff=0:0 for eff=0:3: .. none." "eff=0:2,1:1 for eff=1:1: 9 at 3."
    prints (tower (bytes "eff=0:0") (bytes "eff=1:1") (bytes "limit=32") (bytes "budget=100")) (bytes "value=infinite\nanswer=none\ncount=0\n") ∷
    prints (tower (bytes "eff=0:3") (bytes "eff=0:2,1:1") (bytes "limit=32") (bytes "budget=100")) (bytes "refused=9\nat=3\n") ∷ []
