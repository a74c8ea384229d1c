-- The sample tower of document 01 as a text, and the tables that the document gives for it. Assumes nothing.
use Rattle.std.specs.Prelude.{ℕ, List, [], ◌∷◌, ◌++◌}
use Rattle.planning.specs.Table.{infinite_entry}
use Rattle.reader.specs.Bytes.{bytes}

-- "The text, with / for a line break": the second outcome of move 1, the outcome of move 3, limit and budget are parameters, since the
-- examples change them.
unfoldable pub tower : List ℕ → List ℕ → List ℕ → List ℕ → List ℕ
tower slip door limit budget =
    bytes "vars=2\nsize=4\nsize=2\nmoves=4\nneed=0:0\noutcomes=1\neff=0:1\nneed=0:1\noutcomes=2\neff=0:2\n" ++
    (slip ++ (bytes "\nneed=0:3\noutcomes=1\neff=0:2\nneed=1:0\noutcomes=1\n" ++
    (door ++ (bytes "\ngoal=0:2,1:1\nstart=0,0\npatterns=2\npattern=0\npattern=1\n" ++ (limit ++ (bytes "\n" ++ budget))))))

-- A text, and the six entries of its two tables.
pub record Sample : Type 0 where
  pub text : List ℕ
  pub entries : List ℕ

abbrev builds : List ℕ → List ℕ → Sample
builds t e = record { text = t; entries = e }

-- "The starred ones are shown of the definitions as a list with one theorem for the list": proofs/Sample, samples_build.
unfoldable pub samples : List Sample
samples =
    -- "Tables 3,2,0,1 and 1,0."
    builds (tower (bytes "eff=0:3") (bytes "eff=1:1") (bytes "limit=32") (bytes "budget=100")) (3 ∷ 2 ∷ 0 ∷ 1 ∷ 1 ∷ 0 ∷ []) ∷
    -- "eff=0:0 for eff=0:3: table 65535,65535,0,1"; "infinite" is now "4,294,967,295" (document 02, item 3).
    builds (tower (bytes "eff=0:0") (bytes "eff=1:1") (bytes "limit=32") (bytes "budget=100")) (infinite_entry ∷ infinite_entry ∷ 0 ∷ 1 ∷ 1 ∷ 0 ∷ []) ∷ []
