-- What the words of a state become when an event is put into the future, and when a list becomes the active one.
use Rattle.std.proofs.Common.{◌≡◌, ◌≢◌, ℕ, ◌+◌, List, [], ◌∷◌, ◌++◌, refl, sym, ◌∙◌, ap, ap₂, arith, ⊎_elim, slice_index, slice_set}
use Rattle.std.proofs.lemmas.Bool.{cases_eq}
use Rattle.vf_elaborated.specs.Elaborated.{Elaborated}
use Rattle.vf_elaborated.specs.Addresses.{FUTURE, INACTIVE, NONBLOCKING, link_at}
use Rattle.vf_scheduler.specs.State.{State, Item}
use Rattle.vf_scheduler.specs.Sound.{times, events}
use Rattle.vf_scheduler.specs.Words.{link, head, next_in, numbers, words_of}
use Rattle.vf_layout.specs.Addresses.{HasShape}
use Rattle.vf_layout.specs.Regions.{FutureRegion, HasLink, number, IsQueued, put_first, put_after, moved}
use Rattle.vf_layout.specs.Laws.{RegionsAreWritten, RegionsMove}
use Rattle.vf_layout.proofs.Image.{image}
use Rattle.vf_layout.proofs.Linked.{reset, is_reset, reset_here, reset_other, relinked}
use Rattle.vf_layout.proofs.Chained.{count_in, count-append, not_first, next_here, next_other, put_other, put_own, among_only, among_same}
use Rattle.vf_layout.proofs.Lists.{numbers-append, earlier, later, front_with, links_with, front_long, words_with, words_by, total_parted, nowhere, unlinked}
use Rattle.vf_layout.proofs.Queueing.{alone, there, follows, joins, takes}

module _ (d : Elaborated) (s : State) (shape : HasShape d s) (queued : IsQueued d s) where
  first : (item : Item) → HasLink d s item → times item (events s) ≡ 0 → words_of d (record s { future = item ∷ s.future }) ≡ put_first d (number d item) (words_of d s)
  unfolding put_first
  first item has none =
      let n = number d item in
      let list = s.future in
      let links = links_with d s FutureRegion list in
      let total = total_parted d s queued FutureRegion n list refl in
      let zero = nowhere d s queued item has none in
      let word = link (head (numbers d s list)) in
      let here : links_with d s FutureRegion (item ∷ list) n ≡ word =
      ap link
      (among_only n (earlier d s FutureRegion) (numbers d s (item ∷ list)) (later d s FutureRegion) (omega (arith, total, zero)) (omega (arith, total, zero))
      ∙ next_here n [] (numbers d s list) refl) in
      let elsewhere : (k : ℕ) → k ≢ n → links_with d s FutureRegion (item ∷ list) k ≡ links k =
      λ k other. ap link
      (among_same k (earlier d s FutureRegion) (numbers d s (item ∷ list)) (numbers d s list) (later d s FutureRegion) (next_other k n (numbers d s list) (λ same. other (sym same)))) in
      words_with d s FutureRegion (item ∷ list)
      ∙ ap (λ links. image d (front_with d s FutureRegion (item ∷ list)) links s) (is_reset links (links_with d s FutureRegion (item ∷ list)) n word here elsewhere)
      ∙ relinked d (front_with d s FutureRegion (item ∷ list)) (front_long d s FutureRegion (item ∷ list)) s shape links item word has
      ∙ ap (λ words. slice_set (slice_set words FUTURE (n + 1)) (link_at d n) (slice_index words FUTURE)) (sym (words_by d s FutureRegion list refl))

  after : (before : List Item) (other item : Item) (rest : List Item) → s.future ≡ before ++ other ∷ rest → HasLink d s item → times item (events s) ≡ 0
      → words_of d (record s { future = before ++ other ∷ item ∷ rest }) ≡ put_after d (number d other) (number d item) (words_of d s)
  unfolding put_after
  after before other item rest is has none =
      let n = number d item in
      let m = number d other in
      let list = before ++ other ∷ rest in
      let more = before ++ other ∷ item ∷ rest in
      let r = FutureRegion in
      let links = links_with d s r list in
      let one = alone d s shape queued r before other rest is in
      let total = total_parted d s queued r n list is in
      let zero = nowhere d s queued item has none in
      let split = ap (count_in n) (numbers-append d s before (other ∷ rest)) in
      let parts = count-append n (numbers d s before) (numbers d s (other ∷ rest)) in
      let differs : m ≢ n = not_first n m (numbers d s rest) (omega (arith, total, zero, split, parts)) in
      let new : numbers d s more ≡ numbers d s before ++ m ∷ n ∷ numbers d s rest = numbers-append d s before (other ∷ item ∷ rest) in
      let old : numbers d s list ≡ numbers d s before ++ m ∷ numbers d s rest = numbers-append d s before (other ∷ rest) in
      let word = link (head (numbers d s rest)) in
      let middle = reset links n word in
      let at_m : links_with d s r more m ≡ n + 1 =
      ap link
      (among_only m (earlier d s r) (numbers d s more) (later d s r) one.early one.late
      ∙ ap (next_in m) new ∙ next_here m (numbers d s before) (n ∷ numbers d s rest) one.ahead) in
      let at_n : links_with d s r more n ≡ word =
      ap link
      (among_only n (earlier d s r) (numbers d s more) (later d s r) (omega (arith, total, zero)) (omega (arith, total, zero))
      ∙ ap (next_in n) new ∙ put_own (numbers d s before) m n (numbers d s rest) (omega (arith, total, zero, split, parts)) differs) in
      let elsewhere : (k : ℕ) → k ≢ n → k ≢ m → links_with d s r more k ≡ links k =
      λ k not_n not_m. ap link
      (among_same k (earlier d s r) (numbers d s more) (numbers d s list) (later d s r)
      (ap (next_in k) new ∙ put_other k (numbers d s before) m n (numbers d s rest) (λ same. not_m (sym same)) (λ same. not_n (sym same)) ∙ ap (next_in k) (sym old))) in
      let both : links_with d s r more ≡ reset middle m (n + 1) =
      is_reset middle (links_with d s r more) m (n + 1) at_m
      (λ k not_m.
      ⊎_elim (λ same. ap (links_with d s r more) same ∙ at_n ∙ sym (reset_here links n word) ∙ ap middle (sym same))
      (λ not_n. elsewhere k not_n not_m ∙ sym (reset_other links n word k not_n)) (cases_eq k n)) in
      let front = front_with d s r list in
      let words = image d front links s in
      words_with d s r more ∙ ap (λ links. image d (front_with d s r more) links s) both
      ∙ ap (λ first. image d first (reset middle m (n + 1)) s) (same_front before other item rest)
      ∙ relinked d front (front_long d s r list) s shape middle other (n + 1) (there d s shape queued r before other rest is)
      ∙ ap (λ words. slice_set words (link_at d m) (n + 1)) (relinked d front (front_long d s r list) s shape links item word has)
      ∙ ap (λ words. slice_set (slice_set words (link_at d n) word) (link_at d m) (n + 1)) (sym (words_by d s r list is))
      ∙ ap (λ word. slice_set (slice_set (words_of d s) (link_at d n) word) (link_at d m) (n + 1)) (sym (follows d s shape queued r before other rest is))
    where
      same_front : (before : List Item) (other item : Item) (rest : List Item)
          → front_with d s FutureRegion (before ++ other ∷ item ∷ rest) ≡ front_with d s FutureRegion (before ++ other ∷ rest)
      same_front [] other item rest = refl
      same_front (x ∷ before) other item rest = refl

pub regions_written : RegionsAreWritten
regions_written d s shape queued = record {
  follows = follows d s shape queued;
  unlinked = unlinked d s queued;
  joins = joins d s shape queued;
  takes = takes d s shape queued;
  first = first d s shape queued;
  after = after d s shape queued;
}

-- ---- a list becomes the active one

inactive_moves : (d : Elaborated) (s : State) → words_of d (record s { active = s.inactive; inactive = [] }) ≡ moved INACTIVE (words_of d (record s { active = [] }))
unfolding words_of moved
inactive_moves d s = refl

nonblocking_moves : (d : Elaborated) (s : State)
    → words_of d (record s { active = s.nonblocking; inactive = []; nonblocking = [] }) ≡ moved NONBLOCKING (words_of d (record s { active = []; inactive = [] }))
unfolding words_of moved
nonblocking_moves d s = refl

pub regions_move : RegionsMove
regions_move d s none = record {
  inactive = inactive_moves d s ∙ ap (λ list. moved INACTIVE (words_of d (record s { active = list }))) (sym none);
  nonblocking = λ empty.
      ap (λ list. words_of d (record s { active = s.nonblocking; inactive = list; nonblocking = [] })) empty ∙ nonblocking_moves d s
      ∙ ap₂ (λ active inactive. moved NONBLOCKING (words_of d (record s { active = active; inactive = inactive }))) (sym none) (sym empty);
}
