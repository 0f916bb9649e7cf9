use Rattle.std.proofs.Common.{take, refl, arith}
use Rattle.std.proofs.lemmas.List.{length-take-le}
use Rattle.sorted.specs.Keyed.{up_to_key}
use Rattle.sorted.proofs.Front.{front_le, inserted_at}
use Rattle.sorted.proofs.lists.insert_in.Goals as goal

pub insert_at-requires-clause-place : goal.insert_at-requires-clause-place
insert_at-requires-clause-place g c =
    let n = c.args.count in
    let xs = c.args.records.now in
    let h = front_le (up_to_key g.T.Key.Order.upto g.T.Keyed.keyed c.key.result) (take n xs) in
    omega (arith, length-take-le n xs (omega arith), c.place_after-at.ensures)

pub returns-clause-held : goal.returns-clause-held
returns-clause-held g c =
    λ _. inserted_at g.T.Key.Order.upto g.T.Keyed.keyed c.args.item _ _ refl c.key.result c.key.ensures c.place_after-at.result c.place_after-at.ensures _ c.insert_at.ensures
