-- Lists of records under an order of keys: upto a b says that a comes before b or ties with it.
use Rattle.std.specs.Prelude.{◌≡◌, ℕ, suc, ◌-◌, Bool, true, false, cond, ◌&&◌, List, [], ◌∷◌, Some, None, Ok, Err, Option, Result}
use Rattle.std.specs.declared.cmp.Ordering.{Ordering}
use Rattle.std.specs.declared.cmp.Ordering.TheVariants.{Less, Equal, Greater}
use Rattle.refusal.specs.declared.Reason.TheVariants.{Repeated, Full}
use Rattle.refusal.specs.declared.Layer.TheVariants.{Shelf}
use Rattle.refusal.specs.declared.Refusal.{Refusal}
use Rattle.refusal.specs.Refusals.{refused}

-- how many records stand before the first that fails the test
abbrev pub front : {X : Type 0} → (X → Bool) → List X → ℕ
front p [] = 0
front p (x ∷ xs) = cond (p x) (suc (front p xs)) 0

-- the first record
abbrev pub leading : {X : Type 0} → List X → Option X
leading [] = None
leading (x ∷ xs) = Some x

-- the first record that passes the test
abbrev pub first_of : {X : Type 0} → (X → Bool) → List X → Option X
first_of p [] = None
first_of p (x ∷ xs) = cond (p x) (Some x) (first_of p xs)

-- the list less the first record that passes the test
abbrev pub without : {X : Type 0} → (X → Bool) → List X → List X
without p [] = []
without p (x ∷ xs) = cond (p x) xs (x ∷ without p xs)

-- how a compares with b
abbrev pub comparison : {K : Type 0} → (K → K → Bool) → K → K → Ordering
comparison upto a b = cond (upto a b) (cond (upto b a) Equal Less) Greater

-- two keys tie when each comes before the other or ties with it
abbrev pub tie : {K : Type 0} → (K → K → Bool) → K → K → Bool
tie upto a b = upto a b && upto b a

-- the test that a record has the key k
abbrev pub of_key : {X K : Type 0} → (K → K → Bool) → (X → K) → K → X → Bool
of_key upto key k y = tie upto (key y) k

-- the test that a record's key comes before k or ties with it
abbrev pub up_to_key : {X K : Type 0} → (K → K → Bool) → (X → K) → K → X → Bool
up_to_key upto key k y = upto (key y) k

-- the list with x after the leading records whose keys come before x's or tie with it
abbrev pub inserted : {X K : Type 0} → (K → K → Bool) → (X → K) → X → List X → List X
inserted upto key x [] = x ∷ []
inserted upto key x (y ∷ ys) = cond (up_to_key upto key (key x) y) (y ∷ inserted upto key x ys) (x ∷ (y ∷ ys))

-- the key k comes strictly before every key of the list
abbrev pub Before : {X K : Type 0} → (K → K → Bool) → (X → K) → K → List X → Type 0
Before upto key k [] = Unit {0}
Before upto key k (y ∷ ys) = (upto k (key y) ≡ true) × (upto (key y) k ≡ false) × Before upto key k ys

-- each key comes strictly before those behind it
abbrev pub Rising : {X K : Type 0} → (K → K → Bool) → (X → K) → List X → Type 0
Rising upto key [] = Unit {0}
Rising upto key (y ∷ ys) = Before upto key (key y) ys × Rising upto key ys

-- how many of n records are left when the one that is given, if any, is taken out
abbrev pub left : {X : Type 0} → Option X → ℕ → ℕ
left (Some x) n = n - 1
left None n = n

-- what an insertion answers, by whether there is room
abbrev pub room_answer : Bool → Result (Unit {0}) Refusal
room_answer room = cond room (Ok tt) (Err (refused Full Shelf 0))

-- what an insertion answers: a record that has the key already is refused first, then want of room
abbrev pub insert_answer : {X : Type 0} → Option X → Bool → Result (Unit {0}) Refusal
insert_answer (Some x) room = Err (refused Repeated Shelf 0)
insert_answer None room = room_answer room
