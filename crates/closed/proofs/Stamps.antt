-- What cards without a fault tell.
use Rattle.std.proofs.Common.{◌≡◌, ℕ, ◌<◌, Bool, true, false, cond, List, length, get_or, take, Some, None, refl, arith}
use Rattle.std.proofs.lemmas.Bool.{and_parts, lt-ltb}
use Rattle.refusal.specs.Refusals.{refused}
use Rattle.refusal.specs.declared.Layer.TheVariants.{Book as BookLayer}
use Rattle.refusal.specs.declared.Reason.TheVariants.{OutOfRange, DuplicateStamp}
use Rattle.format.specs.declared.card.Card.{Card}
use Rattle.format.specs.Grammar.{on_card}
use Rattle.format.specs.Records.{card_ok, stamp_ok}
use Rattle.format.proofs.Logic.{some_none}
use Rattle.pairs.proofs.Faults.{none_at}
use Rattle.book.specs.Spaces.{no_card, stamp_at}
use Rattle.closed.specs.Closes.{card_fault, close_fault}
use Rattle.closed.specs.Tables.{size_of, stamp_told}

-- a card without a fault is in range, and its stamp is new
sound : (a b : Bool) (p : ℕ) → cond a (cond b (Some (refused DuplicateStamp BookLayer p)) None) (Some (refused OutOfRange BookLayer p)) ≡ None → (a ≡ true) × (b ≡ false)
sound true true p e = some_none e
sound true false p e = (refl, refl)
sound false b p e = some_none e

pub told : (cs : List Card) → close_fault cs ≡ None → (u : ℕ) → u < size_of cs → stamp_told cs u ≡ stamp_at cs u
told cs e u l =
    let k : u < length cs = omega arith in
    let s = sound (card_ok (get_or cs u no_card)) (on_card (take u cs) (stamp_at cs u)) u (none_at (card_fault cs) (length cs) u e k) in
    let in_range : stamp_ok (stamp_at cs u) ≡ true = (and_parts _ _ s.0).0 in
    rw (lt-ltb u (size_of cs) l, in_range, s.1)

-- a card in range whose stamp is new has no fault
pub fine : (cs : List Card) (p : ℕ) → card_ok (get_or cs p no_card) ≡ true → on_card (take p cs) (stamp_at cs p) ≡ false → card_fault cs p ≡ None
fine cs p e f = rw (e, f)
