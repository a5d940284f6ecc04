-- Updates that are posted one after the other.
use Rattle.std.proofs.Common.{◌≡◌, ℕ, ◌+◌, ◌^◌, ◌<◌, ◌≤◌, Bool, true, false, List, [], ◌∷◌, length, map, drop, refl, sym, ◌∙◌, ap, subst, arith, if◌then◌else◌, nat_lt, slice_index_or}
use Rattle.std.proofs.lemmas.Bool.{lt-ltb, le-ltb, le-leb, lt-leb}
use Rattle.std.proofs.lemmas.List.{drop_more, drop_all, length-map}
use Rattle.std.proofs.lemmas.List.Elements.{All-get_or}
use Rattle.std.specs.List.{All}
use Rattle.std.specs.Prelude.{None}
use Rattle.vf_base.specs.declared.run.Ending.TheVariants as endings
use Rattle.vf_base.specs.declared.write.Write.{Write}
use Rattle.vf_machine.specs.Machine.{Move, go, stop}
use Rattle.vf_elaborated.specs.Elaborated.{Elaborated}
use Rattle.vf_scheduler.specs.State.{State}
use Rattle.vf_scheduler.specs.Posting.{free_slots, is_too_late, posted, posted_all, post}
use Rattle.vf_scheduler.specs.Sound.{IsSound, IsUpdate}
use Rattle.vf_scheduler.proofs.CallerLemmas.{held, sound, posted_held}
use Rattle.vf_queue.specs.declared.update.Update.{Update}
use Rattle.vf_queue.specs.Holding.{Holds}
use Rattle.vf_queue.specs.Updates.{update_of}

module _ (d : Elaborated) (base : List ℕ) (delay : ℕ) (updates : List Update) (s : State) where
  -- so many are posted
  pub record Way (count : ℕ) (patch : List Write) : Type 0 where
    pub state : State
    pub is : posted_all delay (map update_of (drop count updates)) state ≡ posted_all delay (map update_of updates) s
    pub sound_is : IsSound d state
    pub holds : Holds d base patch state
    pub left : free_slots state + count ≡ free_slots s
    pub time : state.time ≡ s.time

  pub begun : (patch : List Write) → IsSound d s → Holds d base patch s → Way 0 patch
  begun patch is holds = record { state = s; is = refl; sound_is = is; holds = holds; left = omega arith; time = refl }

  pub one_posted : (count : ℕ) (old new : List Write) (way : Way count old) (update other : Update) → count < length updates
      → update ≡ slice_index_or updates count other → All (λ (update : Update). IsUpdate d (update_of update)) updates → s.time + delay < 2 ^ 64
      → 1 ≤ free_slots way.state → Holds d base new (posted delay (update_of update) way.state) → Way (count + 1) new
  one_posted count old new way update other below here fits early free holds =
      let u = update_of update in
      let is_update = subst (λ (update : Update). IsUpdate d (update_of update)) (sym here) (All-get_or (λ (update : Update). IsUpdate d (update_of update)) updates count other below fits) in
      let next = posted_held d way.state (held d way.state way.sound_is) free delay u is_update (omega (arith, early, way.time)) in
      let rest : drop count updates ≡ update ∷ drop (count + 1) updates =
      drop_more updates count other below ∙ ap (λ update. update ∷ drop (count + 1) updates) (sym here) in
      record {
        state = posted delay u way.state;
        is = ap (λ list. posted_all delay (map update_of list) way.state) (sym rest) ∙ way.is;
        sound_is = sound d (posted delay u way.state) next.keeps;
        holds = holds;
        left = omega (arith, next.left, way.left);
        time = next.now ∙ way.time;
      }

  -- ---- what it comes to

  abbrev move : Bool → Bool → Move State
  move few late = if few then stop endings.Events else (if late then stop endings.Time else go (posted_all delay (map update_of updates) s) [] None)

  -- no slot is left for the next one
  pub too_few : (count : ℕ) (patch : List Write) (way : Way count patch) → count < length updates → free_slots way.state ≡ 0
      → post delay (map update_of updates) s s ≡ stop endings.Events
  unfolding post
  too_few count patch way below none =
      ap (λ few. move few (is_too_late (s.time + delay)))
      (lt-ltb (free_slots s) (length (map update_of updates)) (omega (arith, below, none, way.left, length-map updates update_of)))

  pub all_posted : (count : ℕ) (patch : List Write) (way : Way count patch) → length updates ≤ count → count ≤ length updates → s.time + delay < 2 ^ 64
      → post delay (map update_of updates) s s ≡ go way.state [] None
  unfolding post
  all_posted count patch way past most early =
      ap (λ few. move few (is_too_late (s.time + delay)))
      (le-ltb (free_slots s) (length (map update_of updates)) (omega (arith, most, way.left, length-map updates update_of)))
      ∙ (ap (λ late. move false late) (lt-leb (2 ^ 64) (s.time + delay) early)
      ∙ ap (λ next. go next [] None) (sym way.is ∙ ap (λ list. posted_all delay (map update_of list) way.state) (drop_all count updates past)))

  pub no_time : (count : ℕ) → count ≡ length updates → 2 ^ 64 ≤ s.time + delay
      → post delay (map update_of updates) s s ≡ stop (if nat_lt (free_slots s) count then endings.Events else endings.Time)
  unfolding post
  no_time count is late =
      ap (λ late. move (nat_lt (free_slots s) (length (map update_of updates))) late) (le-leb (2 ^ 64) (s.time + delay) late)
      ∙ (by (nat_lt (free_slots s) (length (map update_of updates)))
      ∙ ap (λ n. stop (if nat_lt (free_slots s) n then endings.Events else endings.Time)) (length-map updates update_of ∙ sym is))
    where
      by : (few : Bool) → move few true ≡ stop (if few then endings.Events else endings.Time)
      by true = refl
      by false = refl
