-- What the words of a state become when an event joins a list or is taken from one.
use Rattle.std.proofs.Common.{◌≡◌, ◌≢◌, ℕ, ◌+◌, ◌-◌, Bool, true, false, ◌&&◌, List, [], ◌∷◌, ◌++◌, refl, sym, ◌∙◌, ap, arith, ◌==◌, if◌then◌else◌, slice_index, slice_set}
use Rattle.std.proofs.Math.Path.{fun_ext}
use Rattle.std.proofs.lemmas.Bool.{false≢true, ne_eqb}
use Rattle.std.proofs.lemmas.Option.{same_Some}
use Rattle.vf_elaborated.specs.Elaborated.{Elaborated}
use Rattle.vf_elaborated.specs.Addresses.{link_at}
use Rattle.vf_scheduler.specs.State.{State, Item}
use Rattle.vf_scheduler.specs.Words.{link, head, tail, next_in, numbers, words_of}
use Rattle.vf_scheduler.proofs.CallerLemmas.{times-append, times_here}
use Rattle.vf_layout.specs.Addresses.{HasShape}
use Rattle.vf_layout.specs.Regions.{Region, ActiveRegion, InactiveRegion, NonblockingRegion, FutureRegion, StrobeRegion, list_in, with_list, head_at, has_tail, HasLink, number, IsQueued, joined, taken}
use Rattle.vf_layout.proofs.Image.{image}
use Rattle.vf_layout.proofs.Linked.{is_reset, relinked, link_read}
use Rattle.vf_layout.proofs.Counts.{at_most_once}
use Rattle.vf_layout.proofs.Chained.{count_in, total, count-append, count_here, next_here, next_other, no_next, none_in, tail_counted, join_other, join_last, tail_joined, among_only, among_same}
use Rattle.vf_layout.proofs.Lists.{last_item, last_counted, tail_last, numbers-append, earlier, later, front_with, links_with, front_long, words_with, words_by, head_read, tail_read, front_one, front_tail, front_none, front_rest, total_parted, has_link}

-- ---- writes, by what the ends are

pub joined_empty : (d : Elaborated) (at n : ℕ) (words : List ℕ) → slice_index words at ≡ 0 → joined d at n words ≡ slice_set (slice_set words (at + 1) (n + 1)) at (n + 1)
unfolding joined
joined_empty d at n words none =
    ap (λ first. if first == 0 then slice_set (slice_set words (at + 1) (n + 1)) at (n + 1) else slice_set (slice_set words (at + 1) (n + 1)) (link_at d (slice_index words (at + 1) - 1)) (n + 1))
    none

pub joined_more : (d : Elaborated) (at n m last : ℕ) (words : List ℕ) → slice_index words at ≡ m + 1 → slice_index words (at + 1) ≡ last + 1
    → joined d at n words ≡ slice_set (slice_set words (at + 1) (n + 1)) (link_at d last) (n + 1)
unfolding joined
joined_more d at n m last words some ends =
    let place : slice_index words (at + 1) - 1 ≡ last = omega (arith, ends) in
    ap (λ b. if b then slice_set (slice_set words (at + 1) (n + 1)) at (n + 1) else slice_set (slice_set words (at + 1) (n + 1)) (link_at d (slice_index words (at + 1) - 1)) (n + 1))
    (ne_eqb (slice_index words at) 0 (λ none. omega (arith, some, none)))
    ∙ ap (λ last. slice_set (slice_set words (at + 1) (n + 1)) (link_at d last) (n + 1)) place

pub taken_by : (d : Elaborated) (at n next : ℕ) (tailed : Bool) (words : List ℕ) → slice_index words at ≡ n + 1 → slice_index words (link_at d n) ≡ next
    → taken d at tailed words ≡ slice_set (slice_set (if tailed && next == 0 then slice_set words (at + 1) 0 else words) at next) (link_at d n) 0
unfolding taken
taken_by d at n next tailed words first follows =
    let back : slice_index words at - 1 ≡ n = omega (arith, first) in
    ap (λ m. slice_set (slice_set (if tailed && slice_index words (link_at d m) == 0 then slice_set words (at + 1) 0 else words) at (slice_index words (link_at d m))) (link_at d m) 0) back
    ∙ ap (λ next. slice_set (slice_set (if tailed && next == 0 then slice_set words (at + 1) 0 else words) at next) (link_at d n) 0) follows

module _ (d : Elaborated) (s : State) (shape : HasShape d s) (queued : IsQueued d s) where
  -- ---- what follows

  -- an event of a list stands in it once, and in no other
  pub record Alone (r : Region) (n : ℕ) (before rest : List Item) : Type 0 where
    pub early : total n (earlier d s r) ≡ 0
    pub late : total n (later d s r) ≡ 0
    pub ahead : count_in n (numbers d s before) ≡ 0
    pub after : count_in n (numbers d s rest) ≡ 0

  pub alone : (r : Region) (before : List Item) (item : Item) (rest : List Item) → list_in r s ≡ before ++ item ∷ rest → Alone r (number d item) before rest
  alone r before item rest is =
      let n = number d item in
      let most = at_most_once d s queued n in
      let whole = total_parted d s queued r n (before ++ item ∷ rest) is in
      let split = ap (count_in n) (numbers-append d s before (item ∷ rest)) in
      let parts = count-append n (numbers d s before) (numbers d s (item ∷ rest)) in
      let here = count_here n (numbers d s rest) in
      record {
        early = omega (arith, most, whole, split, parts, here);
        late = omega (arith, most, whole, split, parts, here);
        ahead = omega (arith, most, whole, split, parts, here);
        after = omega (arith, most, whole, split, parts, here);
      }

  pub there : (r : Region) (before : List Item) (item : Item) (rest : List Item) → list_in r s ≡ before ++ item ∷ rest → HasLink d s item
  there r before item rest is =
      has_link d s queued r item (before ++ item ∷ rest) is (omega (arith, times-append item before (item ∷ rest), times_here item rest))

  pub next_is : (r : Region) (before : List Item) (item : Item) (rest : List Item) → list_in r s ≡ before ++ item ∷ rest
      → links_with d s r (before ++ item ∷ rest) (number d item) ≡ link (head (numbers d s rest))
  next_is r before item rest is =
      let n = number d item in
      let one = alone r before item rest is in
      ap link
      (among_only n (earlier d s r) (numbers d s (before ++ item ∷ rest)) (later d s r) one.early one.late
      ∙ ap (next_in n) (numbers-append d s before (item ∷ rest)) ∙ next_here n (numbers d s before) (numbers d s rest) one.ahead)

  pub follows : (r : Region) (before : List Item) (item : Item) (rest : List Item) → list_in r s ≡ before ++ item ∷ rest
      → slice_index (words_of d s) (link_at d (number d item)) ≡ link (head (numbers d s rest))
  follows r before item rest is =
      let list = before ++ item ∷ rest in
      ap (λ words. slice_index words (link_at d (number d item))) (words_by d s r list is)
      ∙ link_read d (front_with d s r list) (front_long d s r list) s shape (links_with d s r list) item (there r before item rest is) ∙ next_is r before item rest is

  -- ---- an event joins a list

  module _ (r : Region) (item : Item) (tailed : has_tail r ≡ true) where
    n : ℕ
    n = number d item

    joins_by : (list : List Item) → list_in r s ≡ list → words_of d (with_list r (list ++ item ∷ []) s) ≡ joined d (head_at r) (number d item) (words_of d s)
    unfolding n
    joins_by [] is =
        let words = image d (front_with d s r []) (links_with d s r []) s in
        let same : links_with d s r (item ∷ []) ≡ links_with d s r [] =
        fun_ext {f = links_with d s r (item ∷ [])} {g = links_with d s r []} (λ k. ap link (among_same k (earlier d s r) (n ∷ []) [] (later d s r) (no_next (n == k)))) in
        words_with d s r (item ∷ []) ∙ ap (λ links. image d (front_with d s r (item ∷ [])) links s) same ∙ front_one d s (links_with d s r []) r item tailed
        ∙ sym (joined_empty d (head_at r) n words (head_read d s (links_with d s r []) r [])) ∙ ap (joined d (head_at r) n) (sym (words_by d s r [] is))
    joins_by (x ∷ rest) is =
        let list = x ∷ rest in
        let more = list ++ item ∷ [] in
        let links = links_with d s r list in
        let last = last_item x rest in
        let m = number d last in
        let ends = tail_last d s x rest in
        let has = has_link d s queued r last list is (last_counted x rest) in
        let most = at_most_once d s queued m in
        let whole = total_parted d s queued r m list is in
        let counted = tail_counted m (numbers d s list) ends in
        let new : numbers d s more ≡ numbers d s list ++ n ∷ [] = numbers-append d s list (item ∷ []) in
        let here : links_with d s r more m ≡ n + 1 =
        ap link
        (among_only m (earlier d s r) (numbers d s more) (later d s r) (omega (arith, most, whole, counted)) (omega (arith, most, whole, counted))
        ∙ ap (next_in m) new ∙ join_last m n (numbers d s list) ends (omega (arith, most, whole))) in
        let elsewhere : (k : ℕ) → k ≢ m → links_with d s r more k ≡ links k =
        λ k other. ap link
        (among_same k (earlier d s r) (numbers d s more) (numbers d s list) (later d s r)
        (ap (next_in k) new ∙ join_other k n (numbers d s list) (λ same. other (sym (same_Some m k (sym ends ∙ same)))))) in
        let words = image d (front_with d s r list) links s in
        let end : link (tail (numbers d s more)) ≡ n + 1 = ap (λ list. link (tail list)) new ∙ ap link (tail_joined n (numbers d s list)) in
        words_with d s r more ∙ ap (λ links. image d (front_with d s r more) links s) (is_reset links (links_with d s r more) m (n + 1) here elsewhere)
        ∙ relinked d (front_with d s r more) (front_long d s r more) s shape links last (n + 1) has
        ∙ ap (λ words. slice_set words (link_at d m) (n + 1)) (front_tail d s links r x rest (rest ++ item ∷ []) tailed ∙ ap (slice_set words (head_at r + 1)) end)
        ∙ sym (joined_more d (head_at r) n (number d x) m words (head_read d s links r list) (tail_read d s links r list tailed ∙ ap link ends))
        ∙ ap (joined d (head_at r) n) (sym (words_by d s r list is))

  pub joins : (r : Region) (item : Item) → has_tail r ≡ true → words_of d (with_list r (list_in r s ++ item ∷ []) s) ≡ joined d (head_at r) (number d item) (words_of d s)
  joins r item tailed = joins_by r item tailed (list_in r s) refl

  -- ---- the first event is taken

  -- the front without it
  front_taken : (r : Region) (tailed : Bool) (x : Item) (rest : List Item) (links : ℕ → ℕ) → has_tail r ≡ tailed
      → image d (front_with d s r rest) links s
      ≡ (let words = image d (front_with d s r (x ∷ rest)) links s in
      let next = link (head (numbers d s rest)) in
      slice_set (if tailed && next == 0 then slice_set words (head_at r + 1) 0 else words) (head_at r) next)
  front_taken r true x [] links is = front_none d s links r x is
  front_taken r false x [] links is = only r is
    where
      only : (r : Region) → has_tail r ≡ false → image d (front_with d s r []) links s ≡ slice_set (image d (front_with d s r (x ∷ [])) links s) (head_at r) 0
      only FutureRegion is = refl
      only ActiveRegion is = absurd (false≢true (sym is))
      only InactiveRegion is = absurd (false≢true (sym is))
      only NonblockingRegion is = absurd (false≢true (sym is))
      only StrobeRegion is = absurd (false≢true (sym is))
  front_taken r tailed x (y ∷ rest) links is =
      let words = image d (front_with d s r (x ∷ y ∷ rest)) links s in
      front_rest d s links r x y rest
      ∙ sym (ap (λ b. slice_set (if b then slice_set words (head_at r + 1) 0 else words) (head_at r) (number d y + 1)) (stays tailed))
    where
      stays : (tailed : Bool) → (tailed && number d y + 1 == 0) ≡ false
      stays true = ne_eqb (number d y + 1) 0 (λ e. omega (arith, e))
      stays false = refl

  pub takes : (r : Region) (item : Item) (rest : List Item) → list_in r s ≡ item ∷ rest → words_of d (with_list r rest s) ≡ taken d (head_at r) (has_tail r) (words_of d s)
  takes r item rest is =
      let n = number d item in
      let list = item ∷ rest in
      let links = links_with d s r list in
      let one = alone r [] item rest is in
      let has = there r [] item rest is in
      let words = image d (front_with d s r list) links s in
      let next = link (head (numbers d s rest)) in
      let here : links_with d s r rest n ≡ 0 =
      ap link (among_only n (earlier d s r) (numbers d s rest) (later d s r) one.early one.late ∙ none_in n (numbers d s rest) one.after) in
      let elsewhere : (k : ℕ) → k ≢ n → links_with d s r rest k ≡ links k =
      λ k other. ap link
      (among_same k (earlier d s r) (numbers d s rest) (numbers d s list) (later d s r) (sym (next_other k n (numbers d s rest) (λ same. other (sym same))))) in
      words_with d s r rest ∙ ap (λ links. image d (front_with d s r rest) links s) (is_reset links (links_with d s r rest) n 0 here elsewhere)
      ∙ relinked d (front_with d s r rest) (front_long d s r rest) s shape links item 0 has
      ∙ ap (λ words. slice_set words (link_at d n) 0) (front_taken r (has_tail r) item rest links refl)
      ∙ sym
      (taken_by d (head_at r) n next (has_tail r) words (head_read d s links r list)
      (link_read d (front_with d s r list) (front_long d s r list) s shape links item has ∙ next_is r [] item rest is))
      ∙ ap (taken d (head_at r) (has_tail r)) (sym (words_by d s r list is))
