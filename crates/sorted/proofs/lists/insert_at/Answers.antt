use Rattle.std.proofs.Common.{refl}
use Rattle.sorted.proofs.Shift.{insert_turned}
use Rattle.sorted.proofs.lists.insert_at.Goals as goal

pub returns : goal.returns
returns g c = insert_turned _ _ _ _ _ c.requires.place c.requires.room _ refl c.rotate_right.ensures.after
