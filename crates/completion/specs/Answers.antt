-- What each call answers, and the caller's space after it.
use Rattle.std.specs.Prelude.{ℕ, cond, List, ◌++◌, length, drop, Some, None, Ok, Err, Option, Result, nat_lt}
use Rattle.refusal.specs.Refusals.{refused}
use Rattle.refusal.specs.declared.Layer.TheVariants.{Walk}
use Rattle.refusal.specs.declared.Reason.TheVariants.{ShortSpace}
use Rattle.refusal.specs.declared.Refusal.{Refusal}
use Rattle.cliques.specs.Graph.{Graph}
use Rattle.cliques.specs.Completion.{completion, parent_index, parent_of}
use Rattle.completion.specs.Checks.{set_fault, maximal_fault}

pub record Outcome (A : Type 0) : Type 0 where
  pub answer : Result A Refusal
  pub space : List ℕ

-- a set at the front of the space, and its count; a refusal where the space is too short
abbrev pub copied : List ℕ → List ℕ → Outcome ℕ
copied X out =
    cond (nat_lt (length out) (length X))
    (record { answer = Err (refused ShortSpace Walk 0); space = out })
    (record { answer = Ok (length X); space = X ++ drop (length X) out })

-- the refusal, with the space as it was, or else the outcome
abbrev pub unless : {A : Type 0} → Option Refusal → List ℕ → Outcome A → Outcome A
unless (Some refusal) out outcome = record { answer = Err refusal; space = out }
unless None out outcome = outcome

-- `complete`: the completion
abbrev pub completing : Graph → List ℕ → List ℕ → Outcome ℕ
completing g X out = unless (set_fault g X) out (copied (completion g X) out)

-- `parent_index`: the parent index
abbrev pub indexing : Graph → List ℕ → Result ℕ Refusal
indexing g X = elim (maximal_fault g X) [ Some refusal ↦ Err refusal | None ↦ Ok (parent_index g X) ]

-- the count as that of some set
abbrev pub counted : Result ℕ Refusal → Result (Option ℕ) Refusal
counted (Ok count) = Ok (Some count)
counted (Err refusal) = Err refusal

-- a parent copied, or none told
abbrev pub copied_if_any : Option (List ℕ) → List ℕ → Outcome (Option ℕ)
copied_if_any None out = record { answer = Ok None; space = out }
copied_if_any (Some X) out = record { answer = counted (copied X out).answer; space = (copied X out).space }

-- `parent`: the parent, or none at a root
abbrev pub parenting : Graph → List ℕ → List ℕ → Outcome (Option ℕ)
parenting g X out = unless (maximal_fault g X) out (copied_if_any (parent_of g X) out)
