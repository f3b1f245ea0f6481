use Rattle.std.proofs.Common.{◌≡◌, ℕ, zero, suc, [], ◌∷◌, ◌++◌, map, refl, ap, ◌∙◌, add-one, sym, arith, rules}
use Rattle.std.specs.List.{range_with_len}
use Rattle.std.proofs.lemmas.List.FromFn.{map-range_with_len_more}
use Rattle.std.proofs.lemmas.Result.{IfOk-weaker}
use Rattle.std.proofs.lemmas.Iterator.{YieldsList-from_range, YieldsList-from_map, items_from_collect}
use Rattle.rows.specs.declared.place.Wire.{Wire}
use Rattle.check_text.specs.Replies.{in_order}
use Rattle.check_text.proofs.whole.first_places.Goals as goal

wire : ℕ → Wire
wire q = record { 0 = q }

in_a_row : (n : ℕ) → map (λ (q : ℕ). record { 0 = q }) (range_with_len 0 n) ≡ in_order n
in_a_row zero = refl
in_a_row (suc q) =
    ap (λ (n : ℕ). map (λ (q : ℕ). record { 0 = q }) (range_with_len 0 n)) (sym (add-one q)) ∙ map-range_with_len_more (λ (q : ℕ). record { 0 = q }) 0 q q (omega arith)
    ∙ ap (λ l. l ++ record { 0 = q } ∷ []) (in_a_row q)

pub returns : goal.returns
returns c =
    IfOk-weaker c.collect.result _ _ (λ v e. e ∙ in_a_row c.args.qubits)
    (items_from_collect c.collect.result c.collect.ensures.ran
    (YieldsList-from_map _ (λ (q : ℕ). record { 0 = q }) (YieldsList-from_range 0 c.args.qubits c.args.qubits (search rules) (omega arith)) c.map.ensures.closure (λ x r q k. search rules)))
