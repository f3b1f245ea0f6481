-- From the parts of a reply to the whole.
use Rattle.std.proofs.Common.{◌≡◌, ℕ, Bool, true, List, map, length, Ok, Err, string_bytes, Result, sym, ap, ◌∙◌, subst, arith}
use Rattle.rows.specs.declared.kind.Kind.{Kind}
use Rattle.rows.specs.declared.place.Wire.{Wire}
use Rattle.rows.specs.declared.refusal.Fault.{Fault}
use Rattle.rows.specs.declared.refusal.Refusal.{Refusal}
use Rattle.rows.specs.declared.row.Gate.{Gate as GateRow}
use Rattle.rows.specs.Refusals.{Accepted, Turned}
use Rattle.rows.specs.Steps.{Gate, row_of_gate}
use Rattle.text.specs.Reading.{Statement, statements_of, IsRefused, room, Reading}
use Rattle.sheet.specs.Sheets.{Log, unlaid, plan_of, fresh}
use Rattle.sheet.specs.Refusals.{LayFits}
use Rattle.plan.specs.declared.ability.Ability.{Ability}
use Rattle.plan.specs.Abilities.{known}
use Rattle.plan.specs.Laying.{plan_in, layout, Fits, LaysPlan}
use Rattle.book.specs.declared.book.Book.{Book}
use Rattle.book.specs.declared.verdict.Counts.{Counts}
use Rattle.book.specs.Books.{Holds}
use Rattle.rows.specs.Printed.{refusal_line}
use Rattle.audit.specs.declared.trial.Trial.{Trial}
use Rattle.audit.specs.Audits.{Plays, Clears}
use Rattle.std.specs.Prelude.{String}
use Rattle.std.specs.Global.{Global}
use Rattle.check_text.specs.declared.error.CheckError.{CheckError}
use Rattle.check_text.specs.Cutting.{Cut}
use Rattle.check_text.specs.Stepping.{AfterSteps, ReadAs}
use Rattle.check_text.specs.Answers.{answers_text}
use Rattle.check_text.specs.Replies.{in_order, laid_out, LayoutFits, CircuitOf, Laid, AllJudged, Prints, Judged, Replies, text_refused, layout_refused, judged}

-- all steps are offered to a book, which then answers what is counted
pub all_offered : (b b' : Book) (input out : List ℕ) (ss : List Statement) (xs ys zs : List Trial) (r : Result Counts Fault) →
    AfterSteps (statements_of input) ss → ReadAs ss xs → Plays b xs b' ys → ((l : Log) → Holds b' l → Clears (plan_in b.plan) l r) → zs ≡ ys → out ≡ answers_text zs r →
    (l : Log) → Holds b l → AllJudged (plan_in b.plan) l input out
all_offered b b' input out ss xs ys zs r found read plays clears same shown l h =
    let a = plays.answers l h in
    record {
      statements = ss;
      found = found;
      steps = xs;
      read = read;
      answers = ys;
      after = a.0;
      answered = a.1;
      cleared = r;
      clears = clears a.0 a.2;
      shown = shown ∙ ap (λ ts. answers_text ts r) same;
    }

-- what an able machine's refusals are
module _ (a : Ability) (wires : ℕ) (records : List ℕ) (n : ℕ) (places : List Wire) (rows : List GateRow) (gs : List Gate)
    (width : a.width ≡ 64) (kinds : (κ : Kind) → known a.kinds κ ≡ true) (ordered : places ≡ in_order n) (written : rows ≡ map row_of_gate gs) where
  same_fits : (P : (Refusal → ℕ → Type 0) → Type 0) → P (Fits a (layout wires records n places rows)) → P (LayoutFits wires records n gs)
  same_fits P h =
      let every : known a.kinds ≡ (λ κ. true) = λ i κ. kinds κ i in
      subst (λ (k : ℕ). P (LayFits k (λ κ. true) unlaid (laid_out wires records n gs))) width
      (subst (λ (f : Kind → Bool). P (LayFits a.width f unlaid (laid_out wires records n gs))) every
      (subst (λ (ps : List Wire). P (LayFits a.width (known a.kinds) unlaid (layout wires records n ps (map row_of_gate gs)))) ordered
      (subst (λ (rs : List GateRow). P (LayFits a.width (known a.kinds) unlaid (layout wires records n places rs))) written h)))

  module _ (input : List ℕ) (circuit : CircuitOf input n gs) where
    pub refused_so : (f : Fault) → Turned (Fits a (layout wires records n places rows)) f → (s : String Global) → string_bytes s ≡ refusal_line f → Replies wires records input (Ok s)
    refused_so f t s says = subst (Prints wires records input) (sym says) (layout_refused n gs circuit f (same_fits (λ F. Turned F f) t))

    laid : (b : Book) → LaysPlan a (layout wires records n places rows) b.plan → Laid wires records input (plan_in b.plan)
    laid b h = record {
      n = n;
      gs = gs;
      circuit = circuit;
      accepted = same_fits Accepted h.accepted;
      given = h.given ∙ (λ i. plan_of (layout wires records n (ordered i) (written i)));
    }

    pub judged_so : (b : Book) → LaysPlan a (layout wires records n places rows) b.plan → Holds b (fresh (plan_in b.plan)) → (x : Result (String Global) CheckError) →
        ((l : Log) → Holds b l → Judged (plan_in b.plan) l input x) → Replies wires records input x
    judged_so b h holds (Ok s) j = judged (plan_in b.plan) (laid b h) (string_bytes s) (j (fresh (plan_in b.plan)) holds)
    judged_so b h holds (Err (CheckError.Unreadable line)) j = ((plan_in b.plan, laid b h), j (fresh (plan_in b.plan)) holds)
    judged_so b h holds (Err CheckError.OutOfMemory) j = tt

room_is : (old : List GateRow) → length old ≡ 1024 → room old ≡ 1024
room_is old h = omega (arith, h)

pub text_so : (input part : List ℕ) → Cut input part → (old new : List GateRow) → length old ≡ 1024 → (wires : ℕ) (records : List ℕ) (f : Fault) → Reading part old new (Err f) →
    (s : String Global) → string_bytes s ≡ refusal_line f → Replies wires records input (Ok s)
text_so input part cut old new long wires records f h s says =
    subst (Prints wires records input) (sym says) (text_refused f (record { part = part; cut = cut; refused = subst (λ k. IsRefused k (statements_of part) f) (room_is old long) h.0 }))
