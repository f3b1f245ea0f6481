-- The recorder: a local machine that writes down, at each wire, every gate on it.
use Rattle.std.specs.Prelude.{ℕ, true, false, List, [], ◌∷◌, ◌++◌}
use Rattle.rows.specs.declared.kind.Kind.{Kind}
use Rattle.machine.specs.Machines.{Acts}
use Rattle.machine.specs.Local.{Cells, Rule, local}

-- what a gate adds to the list of one of its wires: its kind, its k, whether the wire is first or second, the other wire's name
pub data Entry : Type 0 where
  lone : Kind → ℕ → Entry
  as_first : Kind → ℕ → ℕ → Entry
  as_second : Kind → ℕ → ℕ → Entry

-- a wire's cell: the name that it had at the start, and its entries in their order
pub record Named : Type 0 where
  pub name : ℕ
  pub entries : List Entry

abbrev pub added : Entry → Named → Named
added e c = record { name = c.name; entries = c.entries ++ e ∷ [] }

-- every kind is known; a gate adds an entry at each of its wires
abbrev pub recording : Rule Named
recording = record {
  known = λ κ. true;
  single = λ κ k c. record { cell = added (lone κ k) c; flips = false };
  double = λ κ k c d. record { first = added (as_first κ k d.name) c; second = added (as_second κ k c.name) d; flips = false };
  shown = λ c. 0;
}

abbrev pub recorder : Acts (Cells Named)
recorder = local recording

-- each wire's name is its number, and no list has an entry
abbrev pub blank : ℕ → Cells Named
blank n = record { width = n; cell = λ w. record { name = w; entries = [] }; minus = false }
