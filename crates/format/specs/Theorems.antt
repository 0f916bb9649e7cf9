-- What reading by the rules comes to, in terms of the grammar.
use Rattle.std.specs.Prelude.{◌≡◌, ℕ, ◌<◌, false, ◌&&◌, List, [], ◌∷◌, ◌++◌, length, Some, None, Ok, Err, Option, Result, ◌==◌, slice_index}
use Rattle.refusal.specs.declared.Reason.{Reason}
use Rattle.refusal.specs.declared.Refusal.{Refusal}
use Rattle.format.specs.declared.card.Rule.{Rule}
use Rattle.format.specs.declared.records.Record.{Record}
use Rattle.format.specs.declared.records.Section.TheVariants.{Done}
use Rattle.format.specs.Sections.{is_done}
use Rattle.format.specs.Grammar.{Terms, by_rule, by_pairs, Contents, Says, encoded}
use Rattle.format.specs.Rules.{Draft, blank, taken, record_rules, byte_rules, first_broken, refused_at, read_book}

abbrev pub rule_in : Terms → Option Rule
rule_in (by_rule r) = Some r
rule_in (by_pairs ps) = None

abbrev pub pairs_in : Terms → List (ℕ × ℕ)
pairs_in (by_rule r) = []
pairs_in (by_pairs ps) = ps

-- the draft of a whole book
abbrev pub draft_of : Contents → Draft
draft_of b = record { section = Done; cards = b.cards; rule = rule_in b.terms; pairs = pairs_in b.terms; withdrawn = b.withdrawn }

-- the draft after some records
abbrev pub after : Draft → List Record → Draft
after d [] = d
after d (r ∷ rs) = after (taken d r) rs

-- each record keeps every rule, given those before it
abbrev pub Kept : Draft → List Record → Type 0
Kept d [] = Unit {0}
Kept d (r ∷ rs) = (first_broken (record_rules d r) ≡ None) × Kept (taken d r) rs

-- The refusal names the first record that breaks a rule: the bytes before its place are records that keep every rule;
-- the book has not ended with them; and of the rules that the record there has to keep, this is the first that it breaks.
pub record FirstFault (bs : List ℕ) (e : Refusal) : Type 0 where
  pub before : List Record
  pub rest : List ℕ
  pub spelt : bs ≡ encoded before ++ rest
  pub kept : Kept blank before
  pub goes_on : is_done (after blank before).section && (length rest == 0) ≡ false
  pub why : Reason
  pub first : first_broken (byte_rules (after blank before) rest) ≡ Some why
  pub told : e ≡ refused_at why (length (encoded before))

-- numbers that fit a byte
abbrev pub Bytes : List ℕ → Type 0
Bytes bs = (i : ℕ) → slice_index bs i < 256

-- The bytes are accepted exactly where they are the encodings of well-formed contents, and these are then what is read;
-- else the first record that breaks a rule is named.
abbrev pub Verdict : List ℕ → Result Draft Refusal → Type 0
Verdict bs (Ok d) = (b : Contents) × Says bs b × (d ≡ draft_of b)
Verdict bs (Err e) = FirstFault bs e × ((b : Contents) → Says bs b → ⊥)

abbrev pub ReadsExactly : Type 0
ReadsExactly = (bs : List ℕ) → Bytes bs → Verdict bs (read_book bs)
