use Rattle.std.proofs.Common.{refl}
use Rattle.sorted.proofs.Shift.{remove_turned}
use Rattle.sorted.proofs.lists.remove_at.Goals as goal

pub returns-clause-held : goal.returns-clause-held
returns-clause-held g c = remove_turned _ _ _ _ c.requires.place c.requires.room _ refl c.rotate_left.ensures.after
