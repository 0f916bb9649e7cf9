-- Answers that differ, and the first broken rule.
use Rattle.std.proofs.Common.{◌≡◌, Bool, true, false, cond, Some, None, Ok, Err, Option, Result, refl, ap, ◌∙◌}
use Rattle.refusal.specs.declared.Reason.{Reason}

pub clash : {X : Type 0} → true ≡ false → X
clash p = cc

pub some_none : {X Z : Type 0} {a : X} → Some a ≡ None → Z
some_none p = cc

pub err_ok : {X Y Z : Type 0} {e : Y} {x : X} → ◌≡◌ {A = Result X Y} (Err e) (Ok x) → Z
err_ok p = cc

-- a rule that is not the first broken one is kept, and the others decide
pub keep : (b : Bool) (why : Reason) {o : Option Reason} → cond b (Some why) o ≡ None → (b ≡ false) × (o ≡ None)
keep true why e = some_none e
keep false why e = (refl, e)

pub kept : (b : Bool) (why : Reason) {o : Option Reason} → b ≡ false → o ≡ None → cond b (Some why) o ≡ None
kept b why {o} p q = ap (λ x. cond x (Some why) o) p ∙ q
