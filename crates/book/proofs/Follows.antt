-- A stand of the reader represents a draft, and a step keeps that.
use Rattle.std.proofs.Common.{◌≡◌, ℕ, ◌-◌, ◌≤◌, Bool, true, false, cond, not, List, [], ◌∷◌, ◌++◌, length, replicate, is_some, Some, None, Ok, Err, Result, unwrap_or, sym, refl, ap, subst, arith, rules}
use Rattle.std.proofs.lemmas.List.FromFn.{fill_by_all}
use Rattle.std.proofs.lemmas.List.{get_or-replicate}
use Rattle.std.proofs.lemmas.Bool.{and_parts}
use Rattle.refusal.specs.declared.Reason.{Reason}
use Rattle.refusal.specs.declared.Reason.TheVariants.{Truncated, UnknownKind, OutOfSection, OutOfRange}
use Rattle.format.specs.declared.card.Card.{Card}
use Rattle.format.specs.declared.records.Record.{Record}
use Rattle.format.specs.declared.records.Record.TheVariants.{Card as CardRecord, Rule as RuleRecord, Pair as PairRecord, Withdrawn as WithdrawnRecord, End as EndRecord}
use Rattle.format.specs.declared.records.Section.{Section}
use Rattle.format.specs.declared.records.Section.TheVariants.{Cards, Ruled, Paired, Withdrawing, Done}
use Rattle.format.specs.Records.{cut_short, fields_ok, kind_of, length_of_kind, record_of, unknown_kind}
use Rattle.format.specs.Sections.{is_done, next}
use Rattle.format.specs.Rules.{Draft, blank, byte_rules, first_broken, own_rules, record_rules, taken}
use Rattle.book.specs.declared.index.IndexRecord.{IndexRecord}
use Rattle.book.specs.Reading.{TellsPairs, withdrawn_marks}
use Rattle.book.specs.Stands.{Stand, carded, fault_of, fresh, pair_marked, placed, placed_in, step_of, withdrawing}
use Rattle.book.proofs.Agrees.{Agrees, Carded, Gone, agrees_by, agrees_map, card_agrees, pair_agrees, withdrawn_agrees}
use Rattle.book.proofs.Pairs.{none_marked}
use Rattle.book.proofs.Places.{Knows, Named}

-- before the first pair and the first withdrawn roll none is said, so that a card may still be added
abbrev Early : Section → List (ℕ × ℕ) → List ℕ → Type 0
Early Cards ps ws = (ps ≡ []) × (ws ≡ [])
Early Ruled ps ws = Unit {0}
Early Paired ps ws = Unit {0}
Early Withdrawing ps ws = Unit {0}
Early Done ps ws = Unit {0}

-- index, marks and withdrawn marks tell what the draft says
pub record Serves (d : Draft) (es : List IndexRecord) (ms : List ℕ) (ws : List Bool) : Type 0 where
  pub few : length d.cards ≤ 256
  pub knows : Knows d.cards es
  pub named : Named d.cards
  pub tells : TellsPairs d.cards d.pairs ms
  pub gone : Gone d.cards d.withdrawn ws
  pub early : Early d.section d.pairs d.withdrawn

abbrev standing : Draft → List IndexRecord → List ℕ → List Bool → Stand
standing d es ms ws = record { section = d.section; rule = d.rule; cards = d.cards; index = es; marks = ms; withdrawn = ws }

pub record Represents (d : Draft) (s : Stand) : Type 0 where
  pub index : List IndexRecord
  pub marks : List ℕ
  pub withdrawn : List Bool
  pub is : s ≡ standing d index marks withdrawn
  pub serves : Serves d index marks withdrawn

-- ---- at the start

none_gone : Gone [] [] (replicate 256 false)
none_gone = record { whole = refl; places = λ u l. get_or-replicate 256 u false false l }

pub starts : (s : Stand) → s ≡ fresh → Represents blank s
starts s e = record {
  index = [];
  marks = replicate 4080 0;
  withdrawn = replicate 256 false;
  is = e;
  serves = record { few = omega arith; knows = λ s. refl; named = λ u h. absurd (omega arith); tells = record { whole = refl; pairs = λ u v l m. none_marked u v }; gone = none_gone; early = (refl, refl) };
}

-- ---- the sections that records lead to

-- a card stands only among cards
card_early : (s : Section) (c : Card) (ps : List (ℕ × ℕ)) (ws : List ℕ) → is_some (next s (CardRecord c)) ≡ true → Early s ps ws → (ps ≡ []) × (ws ≡ []) × Early (unwrap_or (next s (CardRecord c)) s) ps ws
card_early s c ps ws a e = search rules

-- ---- one record

none_said : (cs ds : List Card) (ms : List ℕ) (ps : List (ℕ × ℕ)) → ps ≡ [] → TellsPairs cs ps ms → TellsPairs ds ps ms
none_said cs ds ms ps e t = subst (λ v. TellsPairs ds v ms) (sym e) (let q = subst (λ v. TellsPairs cs v ms) e t in record { whole = q.whole; pairs = q.pairs })

none_withdrawn : (cs ds : List Card) (ws : List Bool) (xs : List ℕ) → xs ≡ [] → Gone cs xs ws → Gone ds xs ws
none_withdrawn cs ds ws xs e g = subst (λ v. Gone ds v ws) (sym e) (let q = subst (λ v. Gone cs v ws) e g in record { whole = q.whole; places = q.places })

module _ (d : Draft) (es : List IndexRecord) (ms : List ℕ) (ws : List Bool) (v : Serves d es ms ws) where
  own : (r : Record) → is_some (next d.section r) ≡ true → fields_ok r ≡ true → Agrees (Represents (taken d r)) (placed_in (standing d es ms ws) r) (first_broken (own_rules d r))
  own (CardRecord c) a f = agrees_map {X = List Card × List IndexRecord} {P = Carded d.cards c} (Represents (taken d (CardRecord c))) _ (carded d.cards es c) (first_broken (own_rules d (CardRecord c))) (λ p h. record {
    index = p.1;
    marks = ms;
    withdrawn = ws;
    is = ap (λ x. record { section = unwrap_or (next d.section (CardRecord c)) d.section; rule = d.rule; cards = x; index = p.1; marks = ms; withdrawn = ws }) h.is;
    serves = record { few = h.few; knows = h.knows; named = h.named; tells = none_said d.cards _ ms d.pairs e.0 v.tells; gone = none_withdrawn d.cards _ ws d.withdrawn e.1 v.gone; early = e.2 };
  })
      (card_agrees d.cards es c v.knows v.named)
    where
      e : ((d.pairs ≡ []) × (d.withdrawn ≡ []) × Early (unwrap_or (next d.section (CardRecord c)) d.section) d.pairs d.withdrawn)
      e = card_early d.section c d.pairs d.withdrawn a v.early
  own (RuleRecord r) a f = record {
    index = es;
    marks = ms;
    withdrawn = ws;
    is = refl;
    serves = record { few = v.few; knows = v.knows; named = v.named; tells = v.tells; gone = v.gone; early = search rules };
  }
  own (PairRecord a b) h f =
      let g = and_parts _ _ f in
      agrees_map {P = TellsPairs d.cards (d.pairs ++ (a, b) ∷ [])} (Represents (taken d (PairRecord a b))) _ (pair_marked es ms a b) (first_broken (own_rules d (PairRecord a b))) (λ ms' t. record {
        index = es;
        marks = ms';
        withdrawn = ws;
        is = refl;
        serves = record { few = v.few; knows = v.knows; named = v.named; tells = t; gone = v.gone; early = search rules };
      })
      (pair_agrees d.cards es v.few v.knows v.named d.pairs ms a b v.tells g.0 g.1)
  own (WithdrawnRecord s) h f = agrees_map {P = Gone d.cards (d.withdrawn ++ s ∷ [])} (Represents (taken d (WithdrawnRecord s))) _ (withdrawing es ws s) (first_broken (own_rules d (WithdrawnRecord s))) (λ ws' t. record {
    index = es;
    marks = ms;
    withdrawn = ws';
    is = refl;
    serves = record { few = v.few; knows = v.knows; named = v.named; tells = v.tells; gone = t; early = search rules };
  })
      (withdrawn_agrees d.cards es v.few v.knows v.named d.withdrawn ws s v.gone f)
  own EndRecord h f = record {
    index = es;
    marks = ms;
    withdrawn = ws;
    is = refl;
    serves = record { few = v.few; knows = v.knows; named = v.named; tells = v.tells; gone = v.gone; early = search rules };
  }

  placed_agrees : (r : Record) → Agrees (Represents (taken d r)) (placed (standing d es ms ws) r) (first_broken (record_rules d r))
  placed_agrees r = go (is_some (next d.section r)) refl (fields_ok r) refl
    where
      go : (a : Bool) → is_some (next d.section r) ≡ a → (b : Bool) → fields_ok r ≡ b → Agrees (Represents (taken d r)) (placed (standing d es ms ws) r) (first_broken (record_rules d r))
      go a e b f = agrees_by (Represents (taken d r))
          (λ i. cond (e i) (cond (f i) (placed_in (standing d es ms ws) r) (Err (fault_of OutOfRange None))) (Err (fault_of OutOfSection None)))
          (λ i. cond (not (e i)) (Some OutOfSection) (cond (not (f i)) (Some OutOfRange) (first_broken (own_rules d r)))) (both a e b f)
        where
          both : (a : Bool) → is_some (next d.section r) ≡ a → (b : Bool) → fields_ok r ≡ b
              → Agrees (Represents (taken d r)) (cond a (cond b (placed_in (standing d es ms ws) r) (Err (fault_of OutOfRange None))) (Err (fault_of OutOfSection None))) (cond (not a) (Some OutOfSection) (cond (not b) (Some OutOfRange) (first_broken (own_rules d r))))
          both true e true f = own r e f
          both true e false f = refl
          both false e b f = refl

-- what a step leaves: the draft with one record more, and the bytes behind it
pub record Stepped (d : Draft) (xs : List ℕ) (p : Stand × ℕ) : Type 0 where
  pub represents : Represents (taken d (record_of xs)) p.0
  pub left : p.1 ≡ length xs - length_of_kind (kind_of xs)

-- A step refuses with the first rule that the record breaks, or takes the record.
pub step_agrees : (d : Draft) (s : Stand) (xs : List ℕ) → Represents d s → Agrees (Stepped d xs) (step_of xs s) (first_broken (byte_rules d xs))
step_agrees d s xs v = agrees_by (Stepped d xs) (ap (step_of xs) v.is) refl (go (is_done d.section) (unknown_kind xs) (cut_short xs))
  where
    go : (a b c : Bool) → Agrees (Stepped d xs)
        (cond a (Err (fault_of OutOfSection None)) (elim (cond {A = Result (Record × ℕ) Reason} b (Err UnknownKind) (cond c (Err Truncated) (Ok (record_of xs, length xs - length_of_kind (kind_of xs))))) [
          | Err e ↦ Err (fault_of e None)
          | Ok p ↦ elim (placed (standing d v.index v.marks v.withdrawn) p.0) [ Err f ↦ Err f | Ok t ↦ Ok (t, p.1) ]
        ]))
        (cond a (Some OutOfSection) (cond b (Some UnknownKind) (cond c (Some Truncated) (first_broken (record_rules d (record_of xs))))))
    go true b c = refl
    go false true c = refl
    go false false true = refl
    go false false false = agrees_map {P = Represents (taken d (record_of xs))} (Stepped d xs) (λ t. (t, length xs - length_of_kind (kind_of xs)))
        (placed (standing d v.index v.marks v.withdrawn) (record_of xs)) (first_broken (record_rules d (record_of xs)))
        (λ t h. record { represents = h; left = refl }) (placed_agrees d v.index v.marks v.withdrawn v.serves (record_of xs))

-- the withdrawn marks, place by place
pub gone_is : (d : Draft) (ws : List Bool) → Gone d.cards d.withdrawn ws → ws ≡ withdrawn_marks d
gone_is d ws g = fill_by_all _ ws 256 false g.whole g.places
