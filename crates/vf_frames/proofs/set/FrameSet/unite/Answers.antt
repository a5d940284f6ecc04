use Rattle.std.proofs.Common.{◌/◌, ◌∙◌, ap, slice_index, bit_or, arith}
use Rattle.vf_frames.proofs.SetLemmas.{bit_is-or, frames_in-unite, frames_in-both}
use Rattle.vf_frames.proofs.set.FrameSet.unite.Goals as goal

pub lengthen-requires : goal.lengthen-requires
lengthen-requires c = omega (arith, c.args.self.now.wide.1, rw c.requires at c.args.other.now.wide.0)

pub returns-clause-each : goal.returns-clause-each
returns-clause-each c =
    let set = c.args.self.now in
    let other = c.args.other.now in
    rw c.requires
    (frames_in-unite set.limit set.words.items other.words.items _
    (λ g h. bit_is-or set.words.items other.words.items _ g
    (c.or_words.ensures.each (g / 64) ∙ ap (λ n. bit_or n (slice_index other.words.items (g / 64))) (c.lengthen.ensures.same (g / 64)))))

pub invariant_of-self : goal.invariant_of-self
invariant_of-self c =
    let set = c.args.self.now in
    let other = c.args.other.now in
    let both = frames_in-both set.limit set.words.items other.words.items _
    (λ g h. bit_is-or set.words.items other.words.items _ g
    (c.or_words.ensures.each (g / 64) ∙ ap (λ n. bit_or n (slice_index other.words.items (g / 64))) (c.lengthen.ensures.same (g / 64)))) in
    let long = rw c.requires at other.wide.0 in
    record {
      wide = (omega (arith, c.or_words.ensures.len, c.lengthen.ensures.most, set.wide.0, long), omega (arith, c.or_words.ensures.capacity, c.lengthen.ensures.capacity, set.wide.1));
      counted = omega (arith, set.counted, rw c.requires at other.counted, c.saturating_add.ensures, c.min-self.ensures, both.0, both.1);
    }
