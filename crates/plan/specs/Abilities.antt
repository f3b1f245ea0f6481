-- The kinds of gates that a machine knows.
use Rattle.std.specs.Prelude.{Bool, false, List, slice_index_or}
use Rattle.rows.specs.declared.kind.Kind.{Kind}
use Rattle.rows.specs.Kinds.{code}

-- whether a kind is known, by a table at the kinds' codes
abbrev pub known : List Bool → Kind → Bool
known kinds κ = slice_index_or kinds (code κ) false
