-- The images of a book beside those that its records hold.
use Rattle.std.proofs.Common.{◌≡◌, ◌≢◌, ℕ, zero, suc, ◌<◌, ◌≤◌, ◌==◌, nat_lt, Bool, true, false, ◌&&◌, ◌||◌, not, List, [], ◌∷◌, if◌then◌else◌, length, drop, map, Option, Some, None, IfSome, is_some, refl, sym, ap, ap₂, ◌∙◌, arith, subst, inl, inr, ◌⊎◌}
use Rattle.std.specs.Prelude.{slice_set}
use Rattle.std.specs.List.{list_any, find, filter}
use Rattle.std.proofs.Math.Seq.{drop-append_seam}
use Rattle.std.proofs.lemmas.Bool.{eqb-true, eqb-false, eq-eqb, ne_eqb, cases_eq, cases_lt, false≢true, ltb-true, ltb-false, lt-ltb, le-ltb, and_parts}
use Rattle.std.proofs.lemmas.List.Folds.{list_any-append}
use Rattle.std.proofs.lemmas.List.{get_or-set_other, get_or_past, length-set}
use Rattle.vf_base.specs.declared.names.Job.{Job}
use Rattle.vf_base.specs.declared.names.Job.TheVariants.{Reach, Finish}
use Rattle.vf_base.specs.declared.names.NodeNo.{NodeNo}
use Rattle.vf_jobs.specs.Jobs as jobs
use Rattle.vf_jobs.specs.Jobs.{node_no}
use Rattle.vf_jobs.specs.Setup.{Conditions}
use Rattle.vf_journal.specs.declared.entry.Entry.{Entry}
use Rattle.vf_journal.specs.declared.entry.Entry.TheVariants.{Start, Saved, Pass, End, Pages, Copy, Lost, Short, Evict, Retire, Rest}
use Rattle.vf_journal.specs.Farm.{Farm}
use Rattle.vf_journal.specs.Records.{Held, Records, image_of}
use Rattle.vf_journal.specs.Effects.{Seen, Spread, after, consequences, copies, down_from, ends_job, is_copied, is_needed, is_retired, by_itself, retirings, spread_of, with_its_copies, without_unneeded}
use Rattle.vf_records.specs.Account.{Account, farm_of, solo_of, records_in, records_after}
use Rattle.vf_image.specs.Images.{Checkpoint}
use Rattle.vf_book.specs.Book.{image_at, retired_by, is_node, retires, without, Fits, Covered, CoveredAt, IsBook, Covers, Lags, Appends}
use Rattle.vf_book.proofs.HolderLemmas.{none-left}

-- ---- images that a test of their nodes keeps

either_way : (b : Bool) (x : Option Held) → x ≡ (if b then x else x)
either_way true x = refl
either_way false x = refl

pub find_filtered : (n : ℕ) (q : NodeNo → Bool) (hs : List Held)
    → find (λ (h : Held). h.node.0 == n) (filter (λ (h : Held). q h.node) hs) ≡ (if q (node_no n) then find (λ (h : Held). h.node.0 == n) hs else None)
find_filtered n q [] = either_way (q (node_no n)) None
find_filtered n q (h ∷ hs) = by (find_filtered n q hs) (q h.node) refl (h.node.0 == n) refl
  where
    by : find (λ (h : Held). h.node.0 == n) (filter (λ (h : Held). q h.node) hs) ≡ (if q (node_no n) then find (λ (h : Held). h.node.0 == n) hs else None)
        → (s : Bool) → q h.node ≡ s → (b : Bool) → (h.node.0 == n) ≡ b
        → find (λ (h : Held). h.node.0 == n) (if s then h ∷ filter (λ (h : Held). q h.node) hs else filter (λ (h : Held). q h.node) hs)
        ≡ (if q (node_no n) then (if b then Some h else find (λ (h : Held). h.node.0 == n) hs) else None)
    by rest true kept true here =
        let is : h.node ≡ node_no n = ap node_no (eqb-true h.node.0 n here) in
        ap (λ b. if b then Some h else find (λ (h : Held). h.node.0 == n) (filter (λ (h : Held). q h.node) hs)) here
        ∙ sym (ap (λ b. if b then Some h else None) (ap q (sym is) ∙ kept))
    by rest true kept false here =
        ap (λ b. if b then Some h else find (λ (h : Held). h.node.0 == n) (filter (λ (h : Held). q h.node) hs)) here ∙ rest
    by rest false kept true here =
        let is : h.node ≡ node_no n = ap node_no (eqb-true h.node.0 n here) in
        let gone : q (node_no n) ≡ false = ap q (sym is) ∙ kept in
        rest ∙ ap (λ b. if b then find (λ (h : Held). h.node.0 == n) hs else None) gone ∙ sym (ap (λ b. if b then Some h else None) gone)
    by rest false kept false here = rest

covered_kept : (c : Conditions) (b : Bool) (i : Option Checkpoint) (h : Option Held) → Fits c i h → Covered c i (if b then h else None)
covered_kept c true None None fits = tt
covered_kept c true None (Some h) fits = fits
covered_kept c true (Some i) None fits = tt
covered_kept c true (Some i) (Some h) fits = fits
covered_kept c false None h fits = tt
covered_kept c false (Some i) h fits = tt

-- where the records keep no more than some of their images, the images cover what is held
pub covers_fewer : (a b : Account) (images : List (Option Checkpoint)) (q : NodeNo → Bool) → b.setup ≡ a.setup
    → (records_in b).held ≡ filter (λ (h : Held). q h.node) (records_in a).held → IsBook (record { account = a; images = images }) → Covers b images
covers_fewer a b images q setup fewer book = record {
  long = book.long ∙ ap (λ (c : Conditions). length c.plan) (sym setup);
  held = λ n.
      let found : image_of (records_in b) (node_no n) ≡ (if q (node_no n) then image_of (records_in a) (node_no n) else None) =
      ap (λ (hs : List Held). find (λ (h : Held). h.node.0 == n) hs) fewer ∙ find_filtered n q (records_in a).held in
      subst (λ (c : Conditions). Covered c (image_at images n) (image_of (records_in b) (node_no n))) (sym setup)
      (subst (Covered a.setup (image_at images n)) (sym found)
      (covered_kept a.setup (q (node_no n)) (image_at images n) (image_of (records_in a) (node_no n)) (book.held n)));
}

-- ---- entries by which a job is over

module _ {S : Type 0} (f : Farm S) (seen : Seen) (r : Records) where
  pass_held : (node : NodeNo) (turn : ℕ) → (after f seen r (Pass node turn)).held ≡ filter (λ (h : Held). is_needed f (with_its_copies f seen r (Pass node turn)) h.node) r.held
  pass_held node turn = refl

  lost_held : (job : Job) (turn : ℕ) → (after f seen r (Lost job turn)).held ≡ filter (λ (h : Held). is_needed f (with_its_copies f seen r (Lost job turn)) h.node) r.held
  lost_held (Reach n) turn = refl
  lost_held (Finish n) turn = refl

  end_held : (job : Job) (turn : ℕ) → (after f seen r (End job turn)).held ≡ filter (λ (h : Held). is_needed f (with_its_copies f seen r (End job turn)) h.node) r.held
  end_held (Reach n) turn = refl
  end_held (Finish n) turn = refl

  pages_held : (job : Job) (turn pages : ℕ) → (after f seen r (Pages job turn pages)).held ≡ filter (λ (h : Held). is_needed f (with_its_copies f seen r (Pages job turn pages)) h.node) r.held
  pages_held (Reach n) turn pages = refl
  pages_held (Finish n) turn pages = refl

-- ---- what an entry retires

or_true : (b : Bool) → (b || true) ≡ true
or_true true = refl
or_true false = refl

and_false : (b : Bool) → (b && false) ≡ false
and_false true = refl
and_false false = refl

none_retired : (n : ℕ) (node : NodeNo) (js : List Job) → list_any (retires n) (map (λ job. Copy job node) js) ≡ false
none_retired n node [] = refl
none_retired n node (j ∷ js) = none_retired n node js

next_below : (n most : ℕ) → ((most ≡ n) → ⊥) → (less : Bool) → nat_lt n most ≡ less → nat_lt n (suc most) ≡ less
next_below n most differs true l = lt-ltb n (suc most) (let h = ltb-true n most l in omega (arith, h))
next_below n most differs false l = le-ltb n (suc most) (let h = ltb-false n most l in omega (arith, h, differs))

only_this : (b x : Bool) → ((b && true) || (false && x)) ≡ b
only_this true x = refl
only_this false x = refl

others_too : (b x : Bool) → ((b && false) || x) ≡ x
others_too true x = refl
others_too false x = refl

one_more : (n : ℕ) (q : ℕ → Bool) (most : ℕ) (same : Bool) → (most == n) ≡ same → ((q most && (most == n)) || (nat_lt n most && q n)) ≡ (nat_lt n (suc most) && q n)
one_more n q most true e =
    let is = eqb-true most n e in
    ap₂ (λ x y. (q most && x) || (y && q n)) e (le-ltb n most (omega (arith, is))) ∙ only_this (q most) (q n) ∙ ap q is
    ∙ sym (ap (λ x. x && q n) (lt-ltb n (suc most) (omega (arith, is))))
one_more n q most false e =
    ap (λ x. (q most && x) || (nat_lt n most && q n)) e ∙ others_too (q most) (nat_lt n most && q n)
    ∙ sym (ap (λ x. x && q n) (next_below n most (eqb-false most n e) (nat_lt n most) refl))

retire_parts : (n : ℕ) (q : ℕ → Bool) (most : ℕ) → list_any (retires n) (map (λ k. Retire (node_no k)) (filter q (down_from most))) ≡ (nat_lt n most && q n) → (b : Bool)
    → list_any (retires n) (map (λ k. Retire (node_no k)) (if b then most ∷ filter q (down_from most) else filter q (down_from most))) ≡ ((b && (most == n)) || (nat_lt n most && q n))
retire_parts n q most rest true = ap (λ x. (most == n) || x) rest
retire_parts n q most rest false = rest

-- of the nodes below a number, those for which the test holds are retired
retirings_any : (n : ℕ) (q : ℕ → Bool) (most : ℕ) → list_any (retires n) (map (λ k. Retire (node_no k)) (filter q (down_from most))) ≡ (nat_lt n most && q n)
retirings_any n q zero = sym (ap (λ b. b && q n) (le-ltb n 0 (omega arith)))
retirings_any n q (suc most) = retire_parts n q most (retirings_any n q most) (q most) ∙ one_more n q most (most == n) refl

ends_none : (e : Entry) → ends_job e ≡ true → retired_by e ≡ None
ends_none (Start job origin) h = refl
ends_none (Saved node turn pages base) h = refl
ends_none (Pass node turn) h = refl
ends_none (End job turn) h = refl
ends_none (Pages job turn pages) h = refl
ends_none (Copy job node) h = refl
ends_none (Lost job turn) h = refl
ends_none (Short job turn) h = refl
ends_none (Evict node) h = refl
ends_none (Retire node) h = absurd (false≢true h)
ends_none Rest h = refl

module _ {S : Type 0} (f : Farm S) (seen : Seen) (r : Records) (e : Entry) (ends : ends_job e ≡ true) where
  copies_none : (n : ℕ) (s : Option Spread) (before : Records) → list_any (retires n) (copies f s before) ≡ false
  copies_none n None before = refl
  copies_none n (Some s) before = none_retired n s.node (filter (is_copied f before s) (jobs.jobs f.nodes))

  -- the entry and what follows from it retire the images that no job needs then
  retires_unneeded : (n : ℕ) → list_any (retires n) (e ∷ consequences f seen r e) ≡ (nat_lt n (length f.nodes) && is_retired f (with_its_copies f seen r e) (node_no n))
  retires_unneeded n =
      let spread = copies f (spread_of f seen e) (by_itself f seen r e) in
      ap (λ o. is_node n o || list_any (retires n) (consequences f seen r e)) (ends_none e ends)
      ∙ list_any-append (retires n) spread (if ends_job e then retirings f (with_its_copies f seen r e) else [])
      ∙ ap (λ b. b || list_any (retires n) (if ends_job e then retirings f (with_its_copies f seen r e) else [])) (copies_none n (spread_of f seen e) (by_itself f seen r e))
      ∙ ap (λ b. list_any (retires n) (if b then retirings f (with_its_copies f seen r e) else [])) ends
      ∙ retirings_any n (λ k. is_retired f (with_its_copies f seen r e) (node_no k)) (length f.nodes)

  -- and leave the others
  left_after : (n : ℕ) → image_of (after f seen r e) (node_no n)
      ≡ (if is_needed f (with_its_copies f seen r e) (node_no n) then image_of (with_its_copies f seen r e) (node_no n) else None)
  left_after n =
      ap (λ b. image_of (if b then without_unneeded f (with_its_copies f seen r e) else with_its_copies f seen r e) (node_no n)) ends
      ∙ find_filtered n (is_needed f (with_its_copies f seen r e)) (with_its_copies f seen r e).held

there_inside : (images : List (Option Checkpoint)) (n : ℕ) → is_some (image_at images n) ≡ true → n < length images
there_inside images n some = by (cases_lt n (length images))
  where
    by : (n < length images) ⊎ (length images ≤ n) → n < length images
    by (inl below) = below
    by (inr past) = absurd (false≢true (ap is_some (sym (get_or_past images n None past)) ∙ some))

-- where an entry ended a job, the images that it does not leave are retired by what was written then
module _ (a b : Account) (images : List (Option Checkpoint)) (e : Entry) (ends : ends_job e ≡ true) (made : Appends e a b) (covers : Covers b images) where
  abbrev then_held : Records
  then_held = with_its_copies (farm_of a.setup) (solo_of a.setup) (records_in a) e

  written : drop (length a.journal) b.journal ≡ e ∷ consequences (farm_of a.setup) (solo_of a.setup) (records_in a) e
  written = ap (λ (x : Account). drop (length a.journal) x.journal) made.account ∙ drop-append_seam a.journal (e ∷ consequences (farm_of a.setup) (solo_of a.setup) (records_in a) e)

  same_setup : b.setup ≡ a.setup
  same_setup = ap (λ (x : Account). x.setup) made.account

  left : (n : ℕ) → image_of (records_in b) (node_no n) ≡ (if is_needed (farm_of a.setup) then_held (node_no n) then image_of then_held (node_no n) else None)
  left n = ap (λ (x : Records). image_of x (node_no n)) made.records ∙ left_after (farm_of a.setup) (solo_of a.setup) (records_in a) e ends n

  told : (n : ℕ) → list_any (retires n) (drop (length a.journal) b.journal) ≡ (nat_lt n (length a.setup.plan) && is_retired (farm_of a.setup) then_held (node_no n))
  told n = ap (list_any (retires n)) written ∙ retires_unneeded (farm_of a.setup) (solo_of a.setup) (records_in a) e ends n

  not_left : (n : ℕ) (needed : Bool) → is_needed (farm_of a.setup) then_held (node_no n) ≡ needed → is_retired (farm_of a.setup) then_held (node_no n) ≡ true → image_of (records_in b) (node_no n) ≡ None
  not_left n true h t = absurd (false≢true (sym (ap (λ x. is_some (image_of then_held (node_no n)) && not x) h ∙ and_false (is_some (image_of then_held (node_no n)))) ∙ t))
  not_left n false h t = left n ∙ ap (λ x. if x then image_of then_held (node_no n) else None) h

  gone_retired : (n : ℕ) (needed : Bool) → is_needed (farm_of a.setup) then_held (node_no n) ≡ needed → image_of (records_in b) (node_no n) ≡ None → is_some (image_of then_held (node_no n)) ≡ true
      → is_retired (farm_of a.setup) then_held (node_no n) ≡ true
  gone_retired n true h none some = absurd (false≢true (ap is_some (sym none ∙ left n ∙ ap (λ x. if x then image_of then_held (node_no n) else None) h) ∙ some))
  gone_retired n false h none some = ap₂ (λ x y. x && not y) some h

  pub lags_after : ((n : ℕ) → is_some (image_at images n) ≡ true → is_some (image_of then_held (node_no n)) ≡ true) → Lags b images (drop (length a.journal) b.journal)
  lags_after shown = record {
    covers = covers;
    retired = λ n none some.
        let inside = there_inside images n some in
        let long = covers.long in
        let same = ap (λ (c : Conditions). length c.plan) same_setup in
        told n ∙ ap₂ (λ x y. x && y) (lt-ltb n (length a.setup.plan) (omega (arith, inside, long, same))) (gone_retired n (is_needed (farm_of a.setup) then_held (node_no n)) refl none (shown n some));
    gone = λ n is.
        let both = and_parts (nat_lt n (length a.setup.plan)) (is_retired (farm_of a.setup) then_held (node_no n)) (sym (told n) ∙ is) in
        (subst (λ (c : Conditions). n < length c.plan) (sym same_setup) (ltb-true n (length a.setup.plan) both.0), not_left n (is_needed (farm_of a.setup) then_held (node_no n)) refl both.1);
  }

-- ---- where an entry ended a job

pub fits_some : (c : Conditions) (i : Option Checkpoint) (h : Option Held) → Fits c i h → is_some i ≡ true → is_some h ≡ true
fits_some c None None fits some = some
fits_some c None (Some h) fits some = refl
fits_some c (Some i) None fits some = absurd fits
fits_some c (Some i) (Some h) fits some = refl

module _ (a b : Account) (images : List (Option Checkpoint)) (book : IsBook (record { account = a; images = images })) where
  covers_over : (e : Entry) → Appends e a b
      → (records_after e a).held ≡ filter (λ (h : Held). is_needed (farm_of a.setup) (with_its_copies (farm_of a.setup) (solo_of a.setup) (records_in a) e) h.node) (records_in a).held
      → Covers b images
  covers_over e made held =
      covers_fewer a b images (is_needed (farm_of a.setup) (with_its_copies (farm_of a.setup) (solo_of a.setup) (records_in a) e)) (ap (λ (x : Account). x.setup) made.account)
      (ap (λ (r : Records). r.held) made.records ∙ held) book

  lags_over : (e : Entry) → ends_job e ≡ true → Appends e a b
      → (records_after e a).held ≡ filter (λ (h : Held). is_needed (farm_of a.setup) (with_its_copies (farm_of a.setup) (solo_of a.setup) (records_in a) e) h.node) (records_in a).held
      → (with_its_copies (farm_of a.setup) (solo_of a.setup) (records_in a) e).held ≡ (records_in a).held
      → Lags b images (drop (length a.journal) b.journal)
  lags_over e ends made held same =
      lags_after a b images e ends made (covers_over e made held)
      (λ n some. ap (λ (hs : List Held). is_some (find (λ (h : Held). h.node.0 == n) hs)) same
      ∙ fits_some a.setup (image_at images n) (image_of (records_in a) (node_no n)) (book.held n) some)

  pub lags_pass : (node : NodeNo) (turn : ℕ) → Appends (Pass node turn) a b → Lags b images (drop (length a.journal) b.journal)
  lags_pass node turn made = lags_over (Pass node turn) refl made (pass_held (farm_of a.setup) (solo_of a.setup) (records_in a) node turn) refl

  pub lags_lost : (job : Job) (turn : ℕ) → Appends (Lost job turn) a b → Lags b images (drop (length a.journal) b.journal)
  lags_lost job turn made = lags_over (Lost job turn) refl made (lost_held (farm_of a.setup) (solo_of a.setup) (records_in a) job turn) (same job)
    where
      same : (job : Job) → (with_its_copies (farm_of a.setup) (solo_of a.setup) (records_in a) (Lost job turn)).held ≡ (records_in a).held
      same (Reach n) = refl
      same (Finish n) = refl

  pub lags_end : (job : Job) (turn : ℕ) → Appends (End job turn) a b → Lags b images (drop (length a.journal) b.journal)
  lags_end job turn made = lags_over (End job turn) refl made (end_held (farm_of a.setup) (solo_of a.setup) (records_in a) job turn) (same job)
    where
      same : (job : Job) → (with_its_copies (farm_of a.setup) (solo_of a.setup) (records_in a) (End job turn)).held ≡ (records_in a).held
      same (Reach n) = refl
      same (Finish n) = refl

  pub lags_pages : (job : Job) (turn pages : ℕ) → Appends (Pages job turn pages) a b → Lags b images (drop (length a.journal) b.journal)
  lags_pages job turn pages made = lags_over (Pages job turn pages) refl made (pages_held (farm_of a.setup) (solo_of a.setup) (records_in a) job turn pages) (same job)
    where
      same : (job : Job) → (with_its_copies (farm_of a.setup) (solo_of a.setup) (records_in a) (Pages job turn pages)).held ≡ (records_in a).held
      same (Reach n) = refl
      same (Finish n) = refl

-- ---- one entry after another

module _ (a : Account) (images : List (Option Checkpoint)) (e : Entry) (more : List Entry) (lags : Lags a images (e ∷ more)) where
  -- the next entry retires nothing
  pub lags_past : retired_by e ≡ None → Lags a images more
  lags_past none = record {
    covers = lags.covers;
    retired = λ n gone some. sym (ap (λ o. is_node n o || list_any (retires n) more) none) ∙ lags.retired n gone some;
    gone = λ n told. lags.gone n (ap (λ b. retires n e || b) told ∙ or_true (retires n e));
  }

  module _ (node : NodeNo) (is : retired_by e ≡ Some node) where
    node_gone : (node.0 < length a.setup.plan) × (image_of (records_in a) (node_no node.0) ≡ None)
    node_gone = lags.gone node.0 (ap (λ o. is_node node.0 o || list_any (retires node.0) more) is ∙ ap (λ b. b || list_any (retires node.0) more) (eq-eqb node.0 node.0 refl))

    pub retired_inside : node.0 < length images
    retired_inside = let long = lags.covers.long in let inside = node_gone.0 in omega (arith, long, inside)

    -- the image that it retires was given back
    pub lags_given : Lags a (slice_set images node.0 None) more
    lags_given = record {
      covers = record { long = length-set images node.0 None ∙ lags.covers.long; held = λ n. covered n (cases_eq n node.0) };
      retired = λ n gone some. still n gone some (cases_eq n node.0);
      gone = λ n told. lags.gone n (ap (λ b. retires n e || b) told ∙ or_true (retires n e));
    }
      where
        covered : (n : ℕ) → (n ≡ node.0) ⊎ (n ≢ node.0) → CoveredAt a (slice_set images node.0 None) n
        covered n (inl same) =
            subst (CoveredAt a (slice_set images node.0 None)) (sym same)
            (subst (λ i. Covered a.setup i (image_of (records_in a) (node_no node.0))) (sym (none-left images node.0)) (subst (λ h. Covered a.setup None h) (sym node_gone.1) tt))
        covered n (inr other) = subst (λ i. Covered a.setup i (image_of (records_in a) (node_no n))) (sym (get_or-set_other images node.0 n None None other)) (lags.covers.held n)

        still : (n : ℕ) → image_of (records_in a) (node_no n) ≡ None → is_some (image_at (slice_set images node.0 None) n) ≡ true → (n ≡ node.0) ⊎ (n ≢ node.0) → list_any (retires n) more ≡ true
        still n gone some (inl same) = absurd (false≢true (sym (ap (λ m. is_some (image_at (slice_set images node.0 None) m)) same ∙ ap is_some (none-left images node.0)) ∙ some))
        still n gone some (inr other) =
            sym (ap (λ o. is_node n o || list_any (retires n) more) is ∙ ap (λ b. b || list_any (retires n) more) (ne_eqb node.0 n (λ same. other (sym same))))
            ∙ lags.retired n gone (ap is_some (sym (get_or-set_other images node.0 n None None other)) ∙ some)

-- the next entry retires the image of a node, or none
lags_by : (a : Account) (images : List (Option Checkpoint)) (e : Entry) (more : List Entry) → Lags a images (e ∷ more) → (o : Option NodeNo) → retired_by e ≡ o → Lags a (without o images) more
lags_by a images e more lags None is = lags_past a images e more lags is
lags_by a images e more lags (Some node) is = lags_given a images e more lags node is

pub lags_step : (a : Account) (images : List (Option Checkpoint)) (e : Entry) (more : List Entry) → Lags a images (e ∷ more) → Lags a (without (retired_by e) images) more
lags_step a images e more lags = lags_by a images e more lags (retired_by e) refl

inside_of : (a : Account) (images : List (Option Checkpoint)) (e : Entry) (more : List Entry) → Lags a images (e ∷ more) → (o : Option NodeNo) → retired_by e ≡ o → IfSome o (λ node. node.0 < length images)
inside_of a images e more lags None is = tt
inside_of a images e more lags (Some node) is = retired_inside a images e more lags node is

pub inside_by : (a : Account) (images : List (Option Checkpoint)) (e : Entry) (more : List Entry) → Lags a images (e ∷ more) → IfSome (retired_by e) (λ node. node.0 < length images)
inside_by a images e more lags = inside_of a images e more lags (retired_by e) refl

fit_left : (c : Conditions) (i : Option Checkpoint) (h : Option Held) → (h ≡ None → is_some i ≡ true → ⊥) → Covered c i h → Fits c i h
fit_left c None None left covered = tt
fit_left c None (Some h) left covered = covered
fit_left c (Some i) None left covered = left refl refl
fit_left c (Some i) (Some h) left covered = covered

-- no entry is left
pub lags_none : (a : Account) (images : List (Option Checkpoint)) → Lags a images [] → IsBook (record { account = a; images = images })
lags_none a images lags = record {
  long = lags.covers.long;
  held = λ n. fit_left a.setup (image_at images n) (image_of (records_in a) (node_no n)) (λ none some. false≢true (lags.retired n none some)) (lags.covers.held n);
}

-- told from where the journal had come
pub lags_since : (a b : Account) (images : List (Option Checkpoint)) (since : ℕ) → since ≡ length a.journal → Lags b images (drop (length a.journal) b.journal) → Lags b images (drop since b.journal)
lags_since a b images since is lags = subst (λ n. Lags b images (drop n b.journal)) (sym is) lags
