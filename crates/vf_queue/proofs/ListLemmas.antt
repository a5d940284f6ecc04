-- The writes of an operation on a list, put together.
use Rattle.std.proofs.Common.{◌≡◌, ◌≢◌, ◌+◌, ◌-◌, ◌<◌, ◌≤◌, ◌&&◌, ◌==◌, ℕ, zero, suc, Bool, List, refl, sym, ◌∙◌, ap, ap₂, arith, if◌then◌else◌, slice_index, slice_set}
use Rattle.vf_base.specs.declared.write.Write.{Write}
use Rattle.vf_machine.specs.Writes.{written}
use Rattle.vf_elaborated.specs.Elaborated.{Elaborated}
use Rattle.vf_elaborated.specs.Addresses.{ACTIVE, FUTURE, link_at}
use Rattle.vf_layout.specs.Regions.{joined, taken, put_first, put_after, moved}
use Rattle.vf_layout.proofs.CallerLemmas.{joined_empty, joined_more, taken_by}
use Rattle.vf_queue.specs.Writing.{Writes, Leads, item_count}
use Rattle.vf_queue.proofs.WriteLemmas.{then_write, writes_as}

abbrev pub Sets : List ℕ → ℕ → ℕ → List Write → List Write → Type 0
Sets base at word old new = Writes base (λ words. slice_set words at word) old new

pub leads_to : (d : Elaborated) (n word : ℕ) → Leads d word → word ≡ n + 1 → n < item_count d
leads_to d n word leads is = omega (arith, leads.below, leads.is, is)

positive : (n : ℕ) → n ≢ 0 → 1 ≤ n
positive zero some = absurd (some refl)
positive (suc n) some = omega arith

module _ (d : Elaborated) (base : List ℕ) (old mid new : List Write) where
  abbrev now : ℕ → ℕ
  now at = slice_index (written base old) at

  -- an event joins an empty list
  pub join_first : (at n head word : ℕ) → head ≡ now at → head ≡ 0 → word ≡ n + 1 → Sets base (at + 1) word old mid → Sets base at word mid new
      → Writes base (joined d at n) old new
  join_first at n head word reads none is first second =
      writes_as base _ _ old new
      (ap (λ w. slice_set (slice_set (written base old) (at + 1) w) at w) is ∙ sym (joined_empty d at n (written base old) (sym reads ∙ none)))
      (then_write base _ _ old mid new first second)

  -- an event joins a list after its last one
  pub join_last : (at n head tail last word : ℕ) → head ≡ now at → head ≢ 0 → tail ≡ now (at + 1) → tail ≡ last + 1 → word ≡ n + 1
      → Sets base (at + 1) word old mid → Sets base (link_at d last) word mid new → Writes base (joined d at n) old new
  join_last at n head tail last word reads some ends leads is first second =
      let more : now at ≡ (now at - 1) + 1 = omega (arith, positive head some, reads) in
      writes_as base _ _ old new
      (ap (λ w. slice_set (slice_set (written base old) (at + 1) w) (link_at d last) w) is
      ∙ sym (joined_more d at n (now at - 1) last (written base old) more (sym ends ∙ leads)))
      (then_write base _ _ old mid new first second)

  -- an event becomes the first of the future
  pub first_put : (n head word : ℕ) → head ≡ now FUTURE → word ≡ n + 1 → Sets base FUTURE word old mid → Sets base (link_at d n) head mid new
      → Writes base (put_first d n) old new
  unfolding put_first
  first_put n head word reads is first second =
      writes_as base _ _ old new (ap₂ (λ w h. slice_set (slice_set (written base old) FUTURE w) (link_at d n) h) is reads)
      (then_write base _ _ old mid new first second)

  -- an event follows another
  pub after_put : (m n next word : ℕ) → next ≡ now (link_at d m) → word ≡ n + 1 → Sets base (link_at d n) next old mid
      → Sets base (link_at d m) word mid new → Writes base (put_after d m n) old new
  unfolding put_after
  after_put m n next word reads is first second =
      writes_as base _ _ old new (ap₂ (λ w h. slice_set (slice_set (written base old) (link_at d n) h) (link_at d m) w) is reads)
      (then_write base _ _ old mid new first second)

-- a list's first event leaves it
pub first_taken : (d : Elaborated) (base : List ℕ) (old emptied mid new : List Write) (at n head next : ℕ) (tailed empty : Bool)
    → head ≡ slice_index (written base old) at → head ≡ n + 1 → next ≡ slice_index (written base old) (link_at d n) → empty ≡ (tailed && next == 0)
    → Writes base (λ words. if empty then slice_set words (at + 1) 0 else words) old emptied → Sets base at next emptied mid → Sets base (link_at d n) 0 mid new
    → Writes base (taken d at tailed) old new
first_taken d base old emptied mid new at n head next tailed empty reads leads follows is first second third =
    writes_as base _ _ old new
    (ap (λ b. slice_set (slice_set (if b then slice_set (written base old) (at + 1) 0 else written base old) at next) (link_at d n) 0) is
    ∙ sym (taken_by d at n next tailed (written base old) (sym reads ∙ leads) (sym follows)))
    (then_write base _ _ old mid new (then_write base _ _ old emptied mid first second) third)

-- a list becomes the active one
pub all_moved : (base : List ℕ) (old one two three new : List Write) (at head tail : ℕ) → head ≡ slice_index (written base old) at
    → tail ≡ slice_index (written base old) (at + 1) → Sets base ACTIVE head old one → Sets base (ACTIVE + 1) tail one two → Sets base at 0 two three → Sets base (at + 1) 0 three new
    → Writes base (moved at) old new
unfolding moved
all_moved base old one two three new at head tail reads ends first second third fourth =
    writes_as base _ _ old new
    (ap₂ (λ h t. slice_set (slice_set (slice_set (slice_set (written base old) ACTIVE h) (ACTIVE + 1) t) at 0) (at + 1) 0) reads ends)
    (then_write base _ _ old three new (then_write base _ _ old two three (then_write base _ _ old one two first second) third) fourth)
