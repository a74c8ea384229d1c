-- Document 01, "Text", the three kinds of list: pairs, values and members, each read into 16 cells.
-- Assumes nothing.
use Rattle.std.specs.Prelude.{ℕ, ◌+◌, Bool, true, false, cond, ◌&&◌, List, [], ◌∷◌, get_or, take, drop, set, replicate, ltb, leb, eqb, Option, Some, None}
use Rattle.task_record.specs.Layout.{at_variables, at_sizes}
use Rattle.reader.specs.Text.{comma, colon, index_of, pieces, number_of}
use Rattle.reader.specs.declared.lists.Pair.{Pair}
use Rattle.reader.specs.declared.lists.Gathered.{Gathered}
use Rattle.reader.specs.declared.lists.Kind.{Kind}
use Rattle.reader.specs.declared.lists.Kind.TheVariants.{Pairs, Values, Members}

-- variable v with value x
abbrev pub pair_named : ℕ → ℕ → Option Pair
pair_named v x = Some (record { variable = v; value = x })

-- what two numbers say
abbrev pub pair_from : Option ℕ → Option ℕ → Option Pair
pair_from None y = None
pair_from (Some v) None = None
pair_from (Some v) (Some x) = pair_named v x

-- "variable:value": what stands before the first colon and after it. Without a colon nothing stands after it, and nothing is no number.
unfoldable pub pair_of : List ℕ → Option Pair
pair_of p = pair_from (number_of (take (index_of colon p) p)) (number_of (drop (index_of colon p + 1) p))

-- A piece of a list as variable and value. "need, eff and goal hold variable:value pairs ..": Pairs. "start holds N values": Values, the value of
-- the variable that comes next. "pattern holds ascending variables": Members, marked 1 ("byte 1 if the variable is in, else 0").
unfoldable pub item_of : Kind → ℕ → List ℕ → Option Pair
item_of Pairs next p = pair_of p
item_of Values next p = pair_from (Some next) (number_of p)
item_of Members next p = pair_from (number_of p) (Some 1)

-- "list: variable not below N, not ascending, value not below size": the rules for variable v and value x, of the record r with N and the
-- sizes, where `next` is the lowest variable that may still come
unfoldable pub pair_fits : List ℕ → ℕ → ℕ → ℕ → Bool
pair_fits r next v x = leb next v && ltb v (get_or r at_variables 0) && ltb x (get_or r (at_sizes + v) 0)

-- One piece more: what is no pair is a fault of form, a pair against the rules is one of the list, and any other sets its cell.
unfoldable pub pair_step : List ℕ → Gathered → Option Pair → Gathered
pair_step r g None = record { form = false; list = g.list; next = g.next; cells = g.cells }
pair_step r g (Some p) =
    cond (pair_fits r g.next p.variable p.value)
    (record { form = g.form; list = g.list; next = p.variable + 1; cells = set g.cells p.variable p.value })
    (record { form = g.form; list = false; next = g.next; cells = g.cells })

unfoldable pub list_from : List ℕ → Kind → Gathered → List (List ℕ) → Gathered
list_from r kind g [] = g
list_from r kind g (p ∷ ps) = list_from r kind (pair_step r g (item_of kind g.next p)) ps

abbrev pub is_values : Kind → Bool
is_values Pairs = false
is_values Values = true
is_values Members = false

-- "Commas part these lists too"; "any of these may be empty": no piece. "an empty start is a fault of form": one piece, which is no number.
unfoldable pub listed : Bool → List ℕ → List (List ℕ)
listed values [] = cond values (pieces comma []) []
listed values (x ∷ xs) = pieces comma (x ∷ xs)

-- "In goals, needs and outcomes 255 means not named"; "Unused cells: size, pattern and outcome number 0, all others 255"
abbrev pub unnamed : Kind → ℕ
unnamed Pairs = 255
unnamed Values = 255
unnamed Members = 0

-- nothing read yet
unfoldable pub no_items : Kind → Gathered
no_items kind = record { form = true; list = true; next = 0; cells = replicate 16 (unnamed kind) }

-- the text of a list, read with the N and the sizes of the record r
unfoldable pub list_of : List ℕ → Kind → List ℕ → Gathered
list_of r kind text = list_from r kind (no_items kind) (listed (is_values kind) text)

-- "start not N long": whether a list of values has n of them
abbrev pub whole_list : ℕ → Kind → ℕ → Bool
whole_list n Pairs next = true
whole_list n Values next = eqb next n
whole_list n Members next = true
