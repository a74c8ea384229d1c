-- A quoted text as its bytes, so that keys and samples can be read. Assumes nothing.
use Rattle.std.specs.Prelude.{ℕ, List, [], ◌∷◌}
use Prim.Native.Char.{code}
use Prim.Native.String.{String, [] as none, ◌∷◌ as ◌then◌}

unfoldable pub bytes : String → List ℕ
bytes none = []
bytes (c then s) = code c ∷ bytes s
