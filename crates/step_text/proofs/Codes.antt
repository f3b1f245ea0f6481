-- The kinds of steps by their names.
use Rattle.std.proofs.Common.{◌≡◌, ℕ, ◌+◌, ◌*◌, ◌≤◌, cond, eqb, List, [], ◌∷◌, ◌++◌, drop, codes, sym, refl, ap, ◌∙◌}
use Rattle.std.proofs.lemmas.List.{append_cancel_left}
use Rattle.rows.specs.declared.kind.Kind.{Kind}
use Rattle.rows.proofs.StepKinds.{kind_at}
use Rattle.rows.specs.declared.step_kind.StepKind.{StepKind}
use Rattle.rows.specs.StepKinds.{step_code, step_name}
use Rattle.step_text.specs.StepLines.{named}

-- a number that tells the names apart, from the bytes before the first space
abbrev key : ℕ → List ℕ → ℕ
key n [] = n
key n (b ∷ s) = cond (eqb b 32) n (key (n * 3 + b) s)

abbrev code_by_key : ℕ → ℕ
code_by_key n =
    cond (eqb n 120) 1 (cond (eqb n 121) 2 (cond (eqb n 122) 3 (cond (eqb n 104) 4 (cond (eqb n 115) 5
    (cond (eqb n 4399) 6 (cond (eqb n 116) 7 (cond (eqb n 4426) 8 (cond (eqb n 4112) 9
    (cond (eqb n 419) 10 (cond (eqb n 1340) 11 12))))))))))

code_is : (κ : StepKind) (rest : List ℕ) → code_by_key (key 0 (drop 1 (named (step_code κ) rest))) ≡ step_code κ
code_is (StepKind.Gate Kind.X) rest = refl
code_is (StepKind.Gate Kind.Y) rest = refl
code_is (StepKind.Gate Kind.Z) rest = refl
code_is (StepKind.Gate Kind.H) rest = refl
code_is (StepKind.Gate Kind.S) rest = refl
code_is (StepKind.Gate Kind.Sdag) rest = refl
code_is (StepKind.Gate Kind.T) rest = refl
code_is (StepKind.Gate Kind.Tdag) rest = refl
code_is (StepKind.Gate Kind.Cnot) rest = refl
code_is (StepKind.Gate Kind.Cz) rest = refl
code_is (StepKind.Gate Kind.Crk) rest = refl
code_is StepKind.Exchange rest = refl

-- one name at most stands at the front
kinds_same : (j κ : StepKind) (r t : List ℕ) → named (step_code j) r ≡ named (step_code κ) t → (step_code j ≡ step_code κ) × (r ≡ t)
kinds_same j κ r t e =
    let same : step_code j ≡ step_code κ = sym (code_is j r) ∙ ap (λ (l : List ℕ). code_by_key (key 0 (drop 1 l))) e ∙ code_is κ t in
    let after = append_cancel_left (codes " ") (step_name (step_code j) ++ (codes " " ++ r)) (step_name (step_code j) ++ (codes " " ++ t)) (e ∙ ap (λ (c : ℕ). named c t) (sym same)) in
    (same, append_cancel_left (codes " ") r t (append_cancel_left (step_name (step_code j)) (codes " " ++ r) (codes " " ++ t) after))

pub named_same : (κ : StepKind) (c : ℕ) (r t : List ℕ) → 1 ≤ c → c ≤ 12 → named (step_code κ) r ≡ named c t → (step_code κ ≡ c) × (r ≡ t)
named_same κ c r t l h e =
    let at = kind_at c l h in
    let both = kinds_same κ at.0 r t (e ∙ ap (λ (d : ℕ). named d t) (sym at.1)) in
    (both.0 ∙ at.1, both.1)
