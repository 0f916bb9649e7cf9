-- Which bytes are a roll book, and what it then says.
use Rattle.std.specs.Prelude.{◌≡◌, ℕ, ◌<◌, ◌≤◌, Bool, true, false, ◌&&◌, ◌||◌, List, [], ◌∷◌, ◌++◌, map, length, ◌==◌, nat_eq}
use Rattle.std.specs.List.{flat_map}
use Rattle.format.specs.declared.card.Card.{Card}
use Rattle.format.specs.declared.card.Rule.{Rule}
use Rattle.format.specs.declared.records.Record.{Record}
use Rattle.format.specs.declared.records.Record.TheVariants.{Card as CardRecord, Rule as RuleRecord, Pair as PairRecord, Withdrawn as WithdrawnRecord, End as EndRecord}
use Rattle.format.specs.Records.{bytes_of, card_ok, stamp_ok}

-- one rule, or any number of pairs of stamps
pub data Terms : Type 0 where
  by_rule : Rule → Terms
  by_pairs : List (ℕ × ℕ) → Terms

-- what a book says, each part in the order in which it is said; rolls go by their stamps
pub record Contents : Type 0 where
  pub cards : List Card
  pub terms : Terms
  pub withdrawn : List ℕ

abbrev pub pair_record : ℕ × ℕ → Record
pair_record p = PairRecord p.0 p.1

abbrev pub term_records : Terms → List Record
term_records (by_rule r) = RuleRecord r ∷ []
term_records (by_pairs ps) = map pair_record ps

abbrev pub last_records : List ℕ → List Record
last_records ws = map WithdrawnRecord ws ++ EndRecord ∷ []

-- cards, then one rule or any number of pairs, then withdrawn rolls, then the end
abbrev pub records_of : Contents → List Record
records_of b = map CardRecord b.cards ++ (term_records b.terms ++ last_records b.withdrawn)

-- some member passes the test
abbrev pub any_of : {X : Type 0} → (X → Bool) → List X → Bool
any_of p [] = false
any_of p (x ∷ xs) = p x || any_of p xs

-- the stamp is on one of the cards
abbrev pub on_card : List Card → ℕ → Bool
on_card cs s = any_of (λ c. nat_eq c.stamp s) cs

-- the pair of a and b is said, in either order
abbrev pub same_pair : ℕ → ℕ → ℕ × ℕ → Bool
same_pair a b p = (p.0 == a && p.1 == b) || (p.0 == b && p.1 == a)

abbrev pub said_pair : List (ℕ × ℕ) → ℕ → ℕ → Bool
said_pair ps a b = any_of (same_pair a b) ps

-- the stamp is said
abbrev pub said : List ℕ → ℕ → Bool
said xs s = any_of (λ x. nat_eq x s) xs

-- each is good, given those before it
abbrev pub EachAfter : {X : Type 0} → (List X → X → Type 0) → List X → List X → Type 0
EachAfter P before [] = Unit {0}
EachAfter P before (x ∷ xs) = P before x × EachAfter P (before ++ x ∷ []) xs

-- the fields are in range, and the stamp is on no earlier card
pub record GoodCard (before : List Card) (c : Card) : Type 0 where
  pub in_range : card_ok c ≡ true
  pub family : c.family < 256
  pub new : on_card before c.stamp ≡ false

-- tolerances may be any numbers of two bytes
pub record GoodRule (r : Rule) : Type 0 where
  pub diameter : r.diameter < 65536
  pub crown : r.crown < 65536

-- the stamps of two cards, not a roll with itself, and not said before
pub record GoodPair (cs : List Card) (before : List (ℕ × ℕ)) (p : ℕ × ℕ) : Type 0 where
  pub in_range : (stamp_ok p.0 ≡ true) × (stamp_ok p.1 ≡ true)
  pub known : (on_card cs p.0 ≡ true) × (on_card cs p.1 ≡ true)
  pub apart : nat_eq p.0 p.1 ≡ false
  pub new : said_pair before p.0 p.1 ≡ false

-- the stamp of a card, and not said before
pub record GoodWithdrawn (cs : List Card) (before : List ℕ) (s : ℕ) : Type 0 where
  pub in_range : stamp_ok s ≡ true
  pub known : on_card cs s ≡ true
  pub new : said before s ≡ false

abbrev pub GoodTerms : List Card → Terms → Type 0
GoodTerms cs (by_rule r) = GoodRule r
GoodTerms cs (by_pairs ps) = EachAfter (GoodPair cs) [] ps

pub record WellFormed (b : Contents) : Type 0 where
  pub few : length b.cards ≤ 256
  pub cards : EachAfter GoodCard [] b.cards
  pub terms : GoodTerms b.cards b.terms
  pub withdrawn : EachAfter (GoodWithdrawn b.cards) [] b.withdrawn

-- the bytes are the encodings of the records, end to end
abbrev pub encoded : List Record → List ℕ
encoded rs = flat_map bytes_of rs

-- the bytes are a book that says this
pub record Says (bs : List ℕ) (b : Contents) : Type 0 where
  pub spelt : bs ≡ encoded (records_of b)
  pub well : WellFormed b
