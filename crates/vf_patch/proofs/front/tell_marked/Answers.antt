use Rattle.std.proofs.Common.{◌++◌, List, length, refl, ap, sym, subst, ◌∙◌, append-nil, arith}
use Rattle.vf_base.specs.declared.write.Write.{Write}
use Rattle.vf_machine.specs.Writes.{AllInside}
use Rattle.vf_patch.specs.Patches.{changes, front_writes}
use Rattle.vf_patch.proofs.FrontLemmas.{lowest-marked, none-marked, length-front}
use Rattle.vf_patch.proofs.ChangeLemmas.{told-first}
use Rattle.vf_patch.proofs.front.tell_marked.Goals as goal

pub tell-requires-clause-inside : goal.tell-requires-clause-inside
tell-requires-clause-inside g c =
    let lowest = lowest-marked c.loop-left.left c.args.words.now (omega arith) (omega arith) in
    (subst (AllInside (length (g.W.Words.contents c.args.base.now))) lowest c.loop-left.invariant.inside).0

pub loop-left-smaller : goal.loop-left-smaller
loop-left-smaller g c =
    let lowest = lowest-marked c.loop-left.left c.args.words.now (omega arith) (omega arith) in
    omega (arith, ap length lowest)

pub loop-left-preserved : goal.loop-left-preserved
loop-left-preserved g c =
    let words = g.W.Words.contents c.args.base.now in
    let lowest = lowest-marked c.loop-left.left c.args.words.now (omega arith) (omega arith) in
    record {
      told = told-first words _ _ c.loop-left.into.items c.tell.new.into.items c.tell.ensures.told
          ∙ ap (λ (ws : List Write). c.loop-left.into.items ++ changes words ws) (sym lowest) ∙ c.loop-left.invariant.told;
      inside = (subst (AllInside (length words)) lowest c.loop-left.invariant.inside).1;
      most = omega (arith, ap length lowest, c.tell.ensures.most, c.loop-left.invariant.most);
      capacity = c.tell.ensures.capacity ∙ c.loop-left.invariant.capacity;
    }

pub returns-clause-told : goal.returns-clause-told
returns-clause-told g c =
    let words = g.W.Words.contents c.args.base.now in
    sym (append-nil c.loop-left.into.items)
    ∙ ap (λ (ws : List Write). c.loop-left.into.items ++ changes words ws) (sym (ap (λ m. front_writes m c.args.words.now) c.loop-left-test.false ∙ none-marked c.args.words.now))
    ∙ c.loop-left.invariant.told

pub tell-requires-clause-room : goal.tell-requires-clause-room
tell-requires-clause-room g c =
    let lowest = lowest-marked c.loop-left.left c.args.words.now (omega arith) (omega arith) in
    omega (arith, ap length lowest, c.loop-left.invariant.most, c.loop-left.invariant.capacity, c.requires.room)

pub loop-left-init : goal.loop-left-init
loop-left-init g c = record {
  told = refl;
  inside = c.requires.inside;
  most = omega (arith, length-front c.args.mask c.args.words.now);
  capacity = refl;
}
