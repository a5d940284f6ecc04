use Rattle.std.proofs.Common.{◌++◌, List, length, subst, sym}
use Rattle.vf_base.specs.declared.write.Write.{Write}
use Rattle.vf_machine.specs.Writes.{AllInside, IsChange, written}
use Rattle.vf_patch.specs.Patches.{front_writes, changes}
use Rattle.vf_patch.proofs.FrontLemmas.{rises-front}
use Rattle.vf_patch.proofs.PatchLemmas.{inside-parts}
use Rattle.vf_patch.proofs.ChangeLemmas.{changes-are, told-both}
use Rattle.vf_patch.proofs.patch.Patch.writes.Goals as goal

pub tell_marked-requires-clause-inside : goal.tell_marked-requires-clause-inside
tell_marked-requires-clause-inside g c =
    let s = c.self.inside in
    let count = length (g.W.Words.contents c.args.base.now) in
    (inside-parts count (front_writes s.mask s.front) s.rest.items (subst (AllInside count) (sym c.self.view_is) c.requires)).0

pub tell_all-requires-clause-inside : goal.tell_all-requires-clause-inside
tell_all-requires-clause-inside g c =
    let s = c.self.inside in
    let count = length (g.W.Words.contents c.args.base.now) in
    subst (AllInside count) (sym c.deref.ensures.value)
    (inside-parts count (front_writes s.mask s.front) s.rest.items (subst (AllInside count) (sym c.self.view_is) c.requires)).1

pub returns : goal.returns
returns g c =
    let s = c.self.inside in
    let words = g.W.Words.contents c.args.base.now in
    let whole = front_writes s.mask s.front ++ s.rest.items in
    let change = changes-are words whole (rises-front s.mask s.front s.rest.items c.self.invariant.0) (subst (AllInside (length words)) (sym c.self.view_is) c.requires) in
    subst (IsChange words (written words c.args.self.now))
    (sym (told-both words (front_writes s.mask s.front) s.rest.items c.deref.result.now c.clear.new.self.items c.reserve.new.self.items c.tell_marked.new.into.items c.tell_all.new.into.items
    c.clear.ensures.items c.in_ok-reserve.ensures.items c.deref.ensures.value c.tell_marked.ensures.told c.tell_all.ensures))
    (subst (λ (ws : List Write). IsChange words (written words ws) (changes words whole)) c.self.view_is change)
