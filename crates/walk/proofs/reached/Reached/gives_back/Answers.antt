use Rattle.std.proofs.Common.{Bool, ◌&&◌, List, ℕ, ap, ◌∙◌}
use Rattle.std.proofs.lemmas.Slice.Eq.{slice_eq-Decides}
use Rattle.std.proofs.lemmas.Bool.Decides.{Decides-eqb}
use Rattle.cliques.specs.Sets.{same}
use Rattle.cliques.specs.Shortcuts.{append_pass}
use Rattle.completion.specs.Standings.{members_of}
use Rattle.completion.proofs.Standings.{back}
use Rattle.walk.proofs.Found.{same_is}
use Rattle.walk.proofs.reached.Reached.gives_back.Goals as goal

pub returns-then-none_joins : goal.returns-then-none_joins
returns-then-none_joins g c =
    let m = g.T.PairTable.meaning c.args.self.now.table.now in
    let D = append_pass m m.size c.args.part.now in
    let K = members_of c.args.self.now.set in
    same_is c.eq.result c.members.result.now c.members-then-none_joins.result.now (slice_eq-Decides Decides-eqb _ _ _ c.eq.ensures)
    ∙ (ap (λ (Y : List ℕ). same Y c.members-then-none_joins.result.now) (c.members.ensures.members ∙ back c.completed.result D c.completed.ensures.pass)
    ∙ (ap (same D) c.members-then-none_joins.ensures.members
    ∙ ap (λ (b : Bool). b && same D K) c.if-none_joins.ensures))
