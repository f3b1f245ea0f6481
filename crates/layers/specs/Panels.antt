-- What a panel does.
use Rattle.std.specs.Prelude.{ℕ, List, take}
use Rattle.rows.specs.Steps.{relabel}
use Rattle.machine.specs.Machines.{Acts}
use Rattle.layers.specs.Renaming.{Inside, Once, named}
use Rattle.layers.specs.declared.names.Names.{Names}

-- a name for each wire, one to one
pub record Renaming : Type 0 where
  pub list : List ℕ
  pub inside : Inside list
  pub once : Once list

abbrev pub renaming : Names → Renaming
renaming s = record { list = take s.width.n s.table; inside = s.inside; once = s.once }

-- names and the state below
pub record Panelled (State : Type 0) : Type 0 where
  pub names : Renaming
  pub below : State

-- the name of a panel's wire below
abbrev pub name : {State : Type 0} → Acts State → Panelled State → ℕ → ℕ
name m s a = named (m.wide s.below) s.names.list a

abbrev pub onto : {State : Type 0} → Panelled State → State → Panelled State
onto s u = record { names = s.names; below = u }

-- a machine behind names: width and kinds are those below, and gate, exchange and reading go down renamed
abbrev pub panel : {State : Type 0} → Acts State → Acts (Panelled State)
panel m = record {
  wide = λ s. m.wide s.below;
  knows = λ s. m.knows s.below;
  gated = λ g s. onto s (m.gated (relabel (name m s) g) s.below);
  traded = λ a b s. onto s (m.traded (name m s a) (name m s b) s.below);
  reads = λ s w. m.reads s.below (name m s w);
}
