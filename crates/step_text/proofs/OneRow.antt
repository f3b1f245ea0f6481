-- A line is that of at most one row.
use Rattle.std.proofs.Common.{◌≡◌, ℕ, List, sym, refl, ap, ◌∙◌, subst, arith}
use Rattle.rows.specs.declared.row.Step.{Step as StepRow}
use Rattle.rows.specs.Steps.{step_row}
use Rattle.rows.specs.declared.step_kind.StepKind.{StepKind}
use Rattle.rows.specs.StepKinds.{step_code}
use Rattle.step_text.specs.StepLines.{named, operands, Plain, WritesStep}
use Rattle.lines.specs.Number.{Begins}
use Rattle.step_text.specs.Parts.{Operands}
use Rattle.rows.proofs.StepKinds.{kind_at}
use Rattle.step_text.proofs.Codes.{named_same}
use Rattle.lines.proofs.Decimal.{begins_same}
use Rattle.step_text.proofs.Lists.{operands_same}

abbrev pub after_name : StepRow → List ℕ
after_name r = operands r.kind r.first.0 r.second.0 r.k

-- the start of a line, and its operands
pub starts : (line : List ℕ) (r : StepRow) → WritesStep line r → Begins 4294967295 line r.start (named r.kind (after_name r))
starts line r w = record { small = w.plain.start; ended = λ d. omega (arith, d.0); split = w.is }

row_operands : (r : StepRow) → Plain r → Operands r.kind (after_name r) r.first.0 r.second.0 r.k
row_operands r p = record { first = p.first; second = p.second; k_small = p.k; single = p.single; no_k = p.no_k; is = refl }

-- a line that is that of the row, cut after its start
pub after_start : (line : List ℕ) (v : ℕ) (rest : List ℕ) → Begins 4294967295 line v rest → (r : StepRow) → WritesStep line r → (v ≡ r.start) × (rest ≡ named r.kind (after_name r))
after_start line v rest b r w = begins_same 4294967295 line v r.start rest (named r.kind (after_name r)) (omega arith) b (starts line r w)

pub no_name : (line : List ℕ) (v : ℕ) (rest : List ℕ) → Begins 4294967295 line v rest → (r : StepRow) → WritesStep line r → (κ : StepKind) × (rest ≡ named (step_code κ) (after_name r))
no_name line v rest b r w =
    let at = kind_at r.kind w.plain.low w.plain.high in
    (at.0, (after_start line v rest b r w).1 ∙ ap (λ (c : ℕ). named c (after_name r)) (sym at.1))

-- and after its name
pub after_named : (line : List ℕ) (v : ℕ) (rest : List ℕ) (κ : StepKind) (t : List ℕ) → Begins 4294967295 line v rest → rest ≡ named (step_code κ) t → (r : StepRow) → WritesStep line r →
    (v ≡ r.start) × (step_code κ ≡ r.kind) × Operands (step_code κ) t r.first.0 r.second.0 r.k
after_named line v rest κ t b e r w =
    let cut = after_start line v rest b r w in
    let both = named_same κ r.kind t (after_name r) w.plain.low w.plain.high (sym e ∙ cut.1) in
    let o = subst (λ (l : List ℕ). Operands r.kind l r.first.0 r.second.0 r.k) (sym both.1) (row_operands r w.plain) in
    (cut.0, both.0, subst (λ (c : ℕ). Operands c t r.first.0 r.second.0 r.k) (sym both.0) o)

-- no two rows have one line
pub one_row : (line : List ℕ) (r o : StepRow) → WritesStep line r → WritesStep line o → r ≡ o
one_row line r o w x =
    let at = kind_at r.kind w.plain.low w.plain.high in
    let rest : named r.kind (after_name r) ≡ named (step_code at.0) (after_name r) = ap (λ (c : ℕ). named c (after_name r)) (sym at.1) in
    let mine = after_named line r.start _ at.0 (after_name r) (starts line r w) rest r w in
    let theirs = after_named line r.start _ at.0 (after_name r) (starts line r w) rest o x in
    let same = operands_same (step_code at.0) (after_name r) _ _ _ _ _ _ mine.2 theirs.2 in
    let kinds : r.kind ≡ o.kind = sym at.1 ∙ theirs.1 in
    λ i. step_row (kinds i) (same.0 i) (same.1 i) (same.2 i) (theirs.0 i)
