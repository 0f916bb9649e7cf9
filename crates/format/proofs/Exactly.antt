-- Reading by the rules accepts exactly the books of the grammar, and names the first fault of all other bytes.
use Rattle.std.proofs.Common.{◌≡◌, ℕ, List, ◌++◌, length, Ok, Err, Result, sym, refl, ap, ◌∙◌, zero-add, arith}
use Rattle.std.proofs.lemmas.List.{append-nil}
use Rattle.refusal.specs.declared.Refusal.{Refusal}
use Rattle.format.specs.Sections.{is_done}
use Rattle.format.specs.Grammar.{Contents, Says, encoded, records_of}
use Rattle.format.specs.Rules.{Draft, blank, refused_at, read_book, run}
use Rattle.format.specs.Theorems.{after, draft_of, Verdict, ReadsExactly}
use Rattle.format.proofs.Logic.{err_ok}
use Rattle.format.proofs.Runs.{Halts, halts, reads_on}
use Rattle.format.proofs.Shapes.{contents, fits, leads}

-- a book of the grammar is read as what it says
pub reads : (bs : List ℕ) (b : Contents) → Says bs b → read_book bs ≡ Ok (draft_of b)
unfolding read_book
reads bs b s =
    let l = leads b s.well in
    ap (λ xs. run 0 xs 0 blank) s.spelt ∙ reads_on (records_of b) 0 blank (fits b s.well) l.0 (ap (λ d. is_done d.section) l.1) ∙ ap (λ d. Ok d) l.1

verdict : (bs : List ℕ) (q : Result Draft Refusal) → read_book bs ≡ q → Halts bs 0 blank q → Verdict bs q
verdict bs (Ok d) e h =
    let spelt : bs ≡ encoded h.records = h.spells ∙ ap (λ v. encoded h.records ++ v) h.ends.0 ∙ append-nil (encoded h.records) in
    let c = contents h.records h.fit h.keeps h.ends.1 in
    (c.0, record { spelt = spelt ∙ ap encoded c.1; well = c.2 }, h.ends.2 ∙ ap (after blank) c.1 ∙ (leads c.0 c.2).1)
verdict bs (Err r) e h = (
  record {
    before = h.records;
    rest = h.rest;
    spelt = h.spells;
    kept = h.keeps;
    goes_on = h.ends.0;
    why = h.ends.1.0;
    first = h.ends.1.1;
    told = h.ends.1.2 ∙ ap (refused_at h.ends.1.0) (zero-add (length (encoded h.records)));
  },
  λ b s. err_ok (sym e ∙ reads bs b s),
)

pub reads_exactly : ReadsExactly
unfolding read_book
reads_exactly bs t = verdict bs (run 0 bs 0 blank) refl (halts (length bs) bs 0 blank (omega arith) t)
