-- The line of places that wait to be taken, and their tallies.
use Rattle.std.specs.Prelude.{◌≡◌, ℕ, ◌-◌, ◌<◌, ◌≤◌, Bool, true, false, ◌&&◌, ◌⊎◌, List, [], ◌∷◌, length, Some, None, Option, slice_index_or}
use Rattle.sorted.specs.Keyed.{Rising}
use Rattle.order.specs.declared.tallies.Tally.{Tally}
use Rattle.order.specs.declared.waiting.Waiting.{Waiting}
use Rattle.cliques.specs.Sets.{filter, places}
use Rattle.order.specs.Orders.{bit, how_many, precedes, pick, minus}

-- the order of the line: fewer partners first, among equals the smaller place
abbrev pub upto : Waiting → Waiting → Bool
upto x y = precedes x.tally x.place y.tally y.place

-- the tally of the place v; a place beyond the list does not wait
abbrev pub tally_at : List Tally → ℕ → Tally
tally_at R v = slice_index_or R v (record { partners = 0; waits = false })

-- how many partners of v wait
abbrev pub count_at : List Tally → ℕ → ℕ
count_at R v = (tally_at R v).partners

-- whether v waits
abbrev pub waits_at : List Tally → ℕ → Bool
waits_at R v = (tally_at R v).waits

-- the places that wait
abbrev pub left : ℕ → List Tally → List ℕ
left n R = filter (waits_at R) (places n)

-- v as it stands in the line
abbrev pub key_of : List Tally → ℕ → Waiting
key_of R v = record { tally = count_at R v; place = v }

-- w stands in the list
abbrev pub Among : Waiting → List Waiting → Type 0
Among w [] = ⊥
Among w (x ∷ xs) = (w ≡ x) ⊎ Among w xs

-- the line holds each place that waits, with its tally
pub record Lined (R : List Tally) (W : List Waiting) : Type 0 where
  pub wide : length R ≡ 256
  pub rising : Rising upto (λ w. w) W
  pub only : (w : Waiting) → Among w W → (waits_at R w.place ≡ true) × (w.tally ≡ count_at R w.place)
  pub all : (v : ℕ) → waits_at R v ≡ true → Among (key_of R v) W

-- only places below n wait, and each tally is the number of partners that wait
pub record Tallied (n : ℕ) (e : ℕ → ℕ → Bool) (R : List Tally) (W : List Waiting) : Type 0 where
  pub lined : Lined R W
  pub within : (v : ℕ) → waits_at R v ≡ true → v < n
  pub counted : (v : ℕ) → waits_at R v ≡ true → count_at R v ≡ how_many (e v) (left n R)

-- each place below k that waits and passes the test is lowered by one
pub record Lowered (k : ℕ) (p : ℕ → Bool) (R R' : List Tally) : Type 0 where
  pub waits : (v : ℕ) → waits_at R' v ≡ waits_at R v
  pub below : (v : ℕ) → v < k → count_at R' v ≡ count_at R v - bit (p v && waits_at R v)
  pub above : (v : ℕ) → k ≤ v → count_at R' v ≡ count_at R v

-- the place to take next, with its number of partners
abbrev pub next_of : (ℕ → ℕ → Bool) → List ℕ → Option Waiting
next_of e [] = None
next_of e (x ∷ xs) =
    let v = pick (λ u. how_many (e u) (x ∷ xs)) x xs in
    Some (record { tally = how_many (e v) (x ∷ xs); place = v })

-- the places left then
abbrev pub after_next : (ℕ → ℕ → Bool) → List ℕ → List ℕ
after_next e [] = []
after_next e (x ∷ xs) = minus (pick (λ u. how_many (e u) (x ∷ xs)) x xs) (x ∷ xs)
