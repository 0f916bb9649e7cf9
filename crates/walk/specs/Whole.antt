-- A walk is its table and its standing set: what its type keeps besides has one proof at most.
use Rattle.std.specs.Prelude.{◌≡◌}
use mathlib.Core.HLevel.{is_prop→PathP}
use Rattle.cliques.specs.Paths.{MayStand}
use Rattle.completion.specs.Standings.{Clean, members_of}
use Rattle.walk.specs.declared.walk.Walk.{Walk}
use Rattle.walk.specs.Single.{clean_single, may_stand_single}

-- every walk with the table and the standing set of w is w
abbrev pub IsWhole : {T : Type 0} {p : _} → Walk T p → Type 0
IsWhole {T = T} {p = p} w = (v : Walk T p) → v.table ≡ w.table → v.standing ≡ w.standing → v ≡ w

pub whole : {T : Type 0} {p : _} (w : Walk T p) → IsWhole w
whole {p = p} w v t s i = record {
  table = t i;
  standing = s i;
  clean = is_prop→PathP (λ j. Clean (s j)) (λ j. clean_single (s j)) v.clean w.clean i;
  sound = is_prop→PathP (λ j. MayStand (p.meaning (t j)) (members_of (s j))) (λ j. may_stand_single (p.meaning (t j)) (members_of (s j))) v.sound w.sound i;
}
