use Rattle.std.proofs.Common.{◌≡◌, ℕ, List, ◌++◌, codes, rules}
use Rattle.rows.specs.declared.kind.Kind.{Kind}
use Rattle.names.proofs.opening.Goals as goal

-- no arm took the line, so it does not begin with this name
no_x : (c : goal.In_default) (rest : List ℕ) → c.args.line.now ≡ codes "x q" ++ rest → ⊥
no_x c rest e = search rules

no_y : (c : goal.In_default) (rest : List ℕ) → c.args.line.now ≡ codes "y q" ++ rest → ⊥
no_y c rest e = search rules

no_z : (c : goal.In_default) (rest : List ℕ) → c.args.line.now ≡ codes "z q" ++ rest → ⊥
no_z c rest e = search rules

no_h : (c : goal.In_default) (rest : List ℕ) → c.args.line.now ≡ codes "h q" ++ rest → ⊥
no_h c rest e = search rules

no_s : (c : goal.In_default) (rest : List ℕ) → c.args.line.now ≡ codes "s q" ++ rest → ⊥
no_s c rest e = search rules

no_sdag : (c : goal.In_default) (rest : List ℕ) → c.args.line.now ≡ codes "sdag q" ++ rest → ⊥
no_sdag c rest e = search rules

no_t : (c : goal.In_default) (rest : List ℕ) → c.args.line.now ≡ codes "t q" ++ rest → ⊥
no_t c rest e = search rules

no_tdag : (c : goal.In_default) (rest : List ℕ) → c.args.line.now ≡ codes "tdag q" ++ rest → ⊥
no_tdag c rest e = search rules

no_cnot : (c : goal.In_default) (rest : List ℕ) → c.args.line.now ≡ codes "cnot q" ++ rest → ⊥
no_cnot c rest e = search rules

no_cz : (c : goal.In_default) (rest : List ℕ) → c.args.line.now ≡ codes "cz q" ++ rest → ⊥
no_cz c rest e = search rules

no_crk : (c : goal.In_default) (rest : List ℕ) → c.args.line.now ≡ codes "crk q" ++ rest → ⊥
no_crk c rest e = search rules

pub returns-in_default : goal.returns-in_default
returns-in_default c Kind.X rest e = no_x c rest e
returns-in_default c Kind.Y rest e = no_y c rest e
returns-in_default c Kind.Z rest e = no_z c rest e
returns-in_default c Kind.H rest e = no_h c rest e
returns-in_default c Kind.S rest e = no_s c rest e
returns-in_default c Kind.Sdag rest e = no_sdag c rest e
returns-in_default c Kind.T rest e = no_t c rest e
returns-in_default c Kind.Tdag rest e = no_tdag c rest e
returns-in_default c Kind.Cnot rest e = no_cnot c rest e
returns-in_default c Kind.Cz rest e = no_cz c rest e
returns-in_default c Kind.Crk rest e = no_crk c rest e
