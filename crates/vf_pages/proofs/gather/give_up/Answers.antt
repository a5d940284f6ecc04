use Rattle.std.proofs.Common.{ℕ, cond, refl, ap, eq-eqb, arith}
use Rattle.vf_frames.proofs.CallerLemmas.{rest-then, keeps-then, pool-then, no-win-then}
use Rattle.vf_pages.proofs.Frames.{has-from, lose-one, occurs-last}
use Rattle.vf_pages.proofs.gather.give_up.Goals as goal

pub release-requires-clause-there : goal.release-requires-clause-there
release-requires-clause-there g c =
    let frame = c.in-Some.one.frame.0 in
    let hit = ap (λ b. cond {A = ℕ} b 1 0) (eq-eqb frame frame refl) in
    has-from frame _ (omega (arith, c.loop-one.invariant.covers frame, occurs-last frame _ _ c.in-Some.one c.in-Some.ensures.items, hit))

pub loop-one-preserved-in-Some : goal.loop-one-preserved-in-Some
loop-one-preserved-in-Some g c =
    let inv = c.loop-one.invariant in
    let frame = c.in-Some.one.frame.0 in
    let lost = lose-one frame _ _ c.release.ensures.released.frames in
    let last : (f : ℕ) → _ = λ f. occurs-last f _ _ c.in-Some.one c.in-Some.ensures.items in
    record {
      covers = λ f. omega (arith, inv.covers f, lost f, last f);
      released = λ f. omega (arith, inv.released f, lost f, last f);
      rest = rest-then _ _ _ inv.rest c.release.ensures.released.rest;
      notes = no-win-then _ _ _ inv.notes c.release.ensures.released.notes;
      kept = keeps-then _ _ _ _ _ _ inv.kept c.release.ensures.kept;
      pool = pool-then _ _ _ _ _ _ inv.pool c.release.ensures.pool;
    }

pub loop-one-preserved : goal.loop-one-preserved
loop-one-preserved g c =
    let inv = c.loop-one.invariant in
    let frame = c.in-Some.one.frame.0 in
    let lost = lose-one frame _ _ c.release.ensures.released.frames in
    let last : (f : ℕ) → _ = λ f. occurs-last f _ _ c.in-Some.one c.in-Some.ensures.items in
    record {
      covers = λ f. omega (arith, inv.covers f, lost f, last f);
      released = λ f. omega (arith, inv.released f, lost f, last f);
      rest = rest-then _ _ _ inv.rest c.release.ensures.released.rest;
      notes = no-win-then _ _ _ inv.notes c.release.ensures.released.notes;
      kept = keeps-then _ _ _ _ _ _ inv.kept c.release.ensures.kept;
      pool = pool-then _ _ _ _ _ _ inv.pool c.release.ensures.pool;
    }
