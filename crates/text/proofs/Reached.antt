-- How far the reader has come among the statements of gates.
use Rattle.std.proofs.Common.{◌≡◌, ℕ, ◌+◌, ◌-◌, ◌<◌, ◌≤◌, List, [], ◌∷◌, ◌++◌, map, length, drop, set, sym, refl, ap, ◌∙◌, subst, inr, arith}
use Rattle.std.proofs.lemmas.List.{append-nil, append_assoc, length_push, length-map, map_push, set-append_right, drop_more}
use Rattle.rows.specs.declared.refusal.Refusal.{Refusal}
use Rattle.rows.specs.declared.refusal.Fault.{Fault}
use Rattle.rows.specs.declared.row.Gate.{Gate as GateRow}
use Rattle.rows.specs.Steps.{Gate, row_of_gate}
use Rattle.rows.specs.Refusals.{Accepted}
use Rattle.lines.specs.Grammar.{Writes, no_row}
use Rattle.text.specs.Reading.{Statement, StatementFits, Gates, FirstRefused}
use Rattle.text.specs.Steps.{Filled}

-- of all statements, rest are left; the gates so far stand first in new, before what old has there,
-- and what rest says is what all say after these gates
pub record Reached (n room : ℕ) (all rest : List Statement) (count : ℕ) (old new : List GateRow) : Type 0 where
  pub done : List Gate
  pub counted : count ≡ length done
  pub fit : count ≤ room
  pub rows : new ≡ map row_of_gate done ++ drop count old
  pub more : (gs : List Gate) → Gates n (room - count) rest gs → Gates n room all (done ++ gs)
  pub refused : (f : Fault) → FirstRefused n (room - count) rest f → FirstRefused n room all f

-- where a statement is accepted, a row is left
pub row_left : (n left : ℕ) (s : Statement) → Accepted (StatementFits n left s) → ¬ (left ≡ 0)
row_left n left s h none = h Refusal.NoRow s.number (no_row none)

set_first : (old : List GateRow) (count : ℕ) (g : GateRow) → count < length old → set (drop count old) 0 g ≡ g ∷ drop (count + 1) old
set_first old count g h = ap (λ l. set l 0 g) (drop_more old count g h)

module _ (n room : ℕ) (all rest after : List Statement) (s : Statement) (count : ℕ) (old new : List GateRow) (next : rest ≡ s ∷ after) (r : Reached n room all rest count old new) where
  less : room - count - 1 ≡ room - (count + 1)
  less = omega arith

  pub reached_more : (g : Gate) (row : GateRow) → Accepted (StatementFits n (room - count) s) → Writes s.bytes g → row ≡ row_of_gate g → room ≤ length old →
      Reached n room all after (count + 1) old (set new count row)
  reached_more g row ok w is enough =
      let some : count < room = let left = row_left n (room - count) s ok in omega arith in
      let long : length (map row_of_gate r.done) ≡ count = length-map r.done row_of_gate ∙ sym r.counted in
      let zero_is : count - count ≡ 0 = omega arith in
      record {
        done = r.done ++ g ∷ [];
        counted = omega (arith, r.counted, length_push r.done g);
        fit = omega arith;
        rows =
            ap (λ l. set l count row) r.rows
            ∙ set-append_right (map row_of_gate r.done) (drop count old) count count row long (omega arith)
            ∙ ap (λ k. map row_of_gate r.done ++ set (drop count old) k row) zero_is
            ∙ ap (λ l. map row_of_gate r.done ++ l) (set_first old count row (omega arith))
            ∙ sym (append_assoc (map row_of_gate r.done) (row ∷ []) (drop (count + 1) old))
            ∙ ap (λ l. l ++ drop (count + 1) old) (ap (λ h. map row_of_gate r.done ++ h ∷ []) is ∙ sym (map_push row_of_gate r.done g));
        more = λ gs h. subst (Gates n room all) (sym (append_assoc r.done (g ∷ []) gs))
            (r.more (g ∷ gs) (subst (λ ss. Gates n (room - count) ss (g ∷ gs)) (sym next) (ok, w, subst (λ left. Gates n left after gs) (sym less) h)));
        refused = λ f h. r.refused f (subst (λ ss. FirstRefused n (room - count) ss f) (sym next) (inr (ok, subst (λ left. FirstRefused n left after f) (sym less) h)));
      }

pub all_filled : (n room : ℕ) (all rest : List Statement) (count : ℕ) (old new : List GateRow) → Reached n room all rest count old new → rest ≡ [] → Filled n room all count old new
all_filled n room all rest count old new r none = record {
  gs = r.done;
  gates = subst (Gates n room all) (append-nil r.done) (r.more [] (subst (λ ss. Gates n (room - count) ss []) (sym none) refl));
  counted = r.counted;
  fit = r.fit;
  rows = r.rows ∙ ap (λ k. map row_of_gate r.done ++ drop k old) (r.counted ∙ sym (length-map r.done row_of_gate));
}
