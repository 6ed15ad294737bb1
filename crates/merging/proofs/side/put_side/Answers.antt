use mathlib.Core.Path.{◌≡◌, refl}
use lib.ListN.{length}
use Rattle.layout.specs.Fits.{FitsClock, FitMembers}
use Rattle.merging.proofs.SideImage.{clock_typed, members_typed, all_take}
use Rattle.merging.proofs.SideHeld.{side_long, side_bytes, brings_side}
use borrow.Author.Rules.{rules}
use Rattle.merging.proofs.side.put_side.Goals as goal

pub returns : goal.returns
returns c =
    let b = c in
    let a = b.args in
    let pre = b.requires in
    let long : length a.o.clock.dots ≡ 16 = search rules in
    let wide : length a.o.members.at ≡ 64 = search rules in
    let fits : FitsClock a.o.clock.dots = search (rules, clock_typed) in
    let known : FitMembers a.o.members.at = search (rules, members_typed) in (
      side_bytes a.o.clock a.o.members a.o.rows wide long pre.few pre.many pre.within pre.one _ _ _ _ _ _ _ _ c.put_contents.ensures c.put_u32.ensures c.put_rows-places.ensures.0 c.put_clock.ensures c.put_members.ensures,
      brings_side a.o.clock a.o.members a.o.rows wide long pre.few pre.many pre.within pre.one (all_take _ a.o.clock.len a.o.clock.dots fits) known pre.asc pre.normal _ refl c.put_rows-places.ensures.1 refl refl,
      side_long a.o.clock a.o.members a.o.rows wide long pre.few pre.many pre.within pre.one,
    )
