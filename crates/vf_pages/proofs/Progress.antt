-- How far the gathering of pages has come.
use Rattle.std.proofs.Common.{◌≡◌, ℕ, ◌/◌, ◌<◌, true, List, [], ◌∷◌, ◌++◌, length, map, refl, sym, ap, ◌∙◌, arith, subst, ⊎_elim, append_assoc, eq-eqb, ◌==◌}
use Rattle.std.specs.Prelude.{Option, Some, None, slice_get}
use Rattle.std.proofs.lemmas.Option.{same_Some}
use Rattle.std.proofs.lemmas.Bool.{or_left, or_right, or_cases}
use Rattle.std.proofs.lemmas.List.{length-append}
use Rattle.vf_base.specs.declared.write.Write.{Write}
use Rattle.vf_frames.specs.Numbers.{rises}
use Rattle.vf_frames.specs.declared.holder.Holder.{Holder}
use Rattle.vf_pages.specs.Pages.{Page}
use Rattle.vf_pages.specs.Writes.{touches, written_pages, address, own, beyond, AllOn, AreWrites}
use Rattle.vf_pages.specs.Gathered.{Gathered, Short, ShortNotes, Unmade, OnLack, Goes, Ends}
use Rattle.vf_pages.specs.declared.gather.Lack.{Lack}
use Rattle.vf_pages.specs.declared.gather.Lack.TheVariants.{Frame, Memory}
use Rattle.vf_pages.specs.Needs.{need}
use Rattle.vf_pages.proofs.Entries.{rises-parts, rises-from}
use Rattle.vf_pages.proofs.Words.{touches-append}
use Rattle.vf_pages.proofs.Groups.{own-here, own-append-beyond, AllOn-own, touches-AllOn, beyond-later, beyond-rises, written_pages-append, written_pages-AllOn}
use Rattle.vf_frames.proofs.CallerLemmas.{notes-weaker}
use Rattle.vf_pages.proofs.Frames.{need-append}

-- the first writes fall on one page
pub first-own : (ws : List Write) (f : Write) → Some f ≡ slice_get ws 0 → (more : List Write) × (own (f.at / 64) ws ≡ f ∷ more)
first-own [] f h = absurd (cc)
first-own (w ∷ ws) f h =
    let same : f ≡ w = same_Some f w h in
    (own (f.at / 64) ws, (own-here (f.at / 64) w ws (ap (λ (x : Write). x.at / 64) (sym same))).0 ∙ ap (λ x. x ∷ own (f.at / 64) ws) (sym same))

pub first-beyond : (low limit : ℕ) (ws : List Write) (f : Write) → rises low limit (map address ws) ≡ true → Some f ≡ slice_get ws 0 → (q : ℕ) → touches q (beyond (f.at / 64) ws) ≡ true → f.at / 64 < q
first-beyond low limit [] f r h q t = absurd (cc)
first-beyond low limit (w ∷ ws) f r h q t =
    let same : f ≡ w = same_Some f w h in
    beyond-later (f.at / 64) w.at limit (w ∷ ws) (from-first low limit w (map address ws) r) (omega (arith, ap (λ (x : Write). x.at) same)) q t
  where
    from-first : (low limit : ℕ) (w : Write) (xs : List ℕ) → rises low limit (w.at ∷ xs) ≡ true → rises w.at limit (w.at ∷ xs) ≡ true
    from-first low limit w xs r = let parts = rises-parts low limit w.at xs r in rises-from w.at limit w.at xs (omega arith) parts.1 parts.2

pub first-pages : (low limit : ℕ) (ws : List Write) (f : Write) → rises low limit (map address ws) ≡ true → Some f ≡ slice_get ws 0 → written_pages ws ≡ f.at / 64 ∷ written_pages (beyond (f.at / 64) ws)
first-pages low limit ws f r h =
    let p : ℕ = f.at / 64 in
    let split = first-own ws f h in
    let on : AllOn p (f ∷ split.0) = subst (λ xs. AllOn p xs) split.1 (AllOn-own p ws) in
    ap written_pages (sym (own-append-beyond p ws))
    ∙ written_pages-append (own p ws) (beyond p ws) (λ q r' t u. omega (arith, touches-AllOn p q (own p ws) (AllOn-own p ws) t, first-beyond low limit ws f r h r' u))
    ∙ ap (λ qs. qs ++ written_pages (beyond p ws)) (ap written_pages split.1 ∙ written_pages-AllOn p f split.0 on)

pub first-shorter : (ws : List Write) (f : Write) → Some f ≡ slice_get ws 0 → length (beyond (f.at / 64) ws) < length ws
first-shorter ws f h =
    let split = first-own ws f h in
    omega (arith, ap length (own-append-beyond (f.at / 64) ws), length-append (own (f.at / 64) ws) (beyond (f.at / 64) ws), ap length split.1)

pub none-left : (ws : List Write) → None ≡ slice_get ws 0 → ws ≡ []
none-left [] h = refl
none-left (w ∷ ws) h = absurd (cc)

-- some writes are done, and the rest fall on later pages
pub record Progress (words : ℕ) (zero : List ℕ) (pages : List Page) (writes rest : List Write) (a0 : Option (List ℕ)) (start : Holder) (a : Option (List ℕ)) (now : Holder) (fresh : List Page) : Type 0 where
  pub done : List Write
  pub whole : writes ≡ done ++ rest
  pub rising : AreWrites words rest
  pub later : (q r : ℕ) → touches q done ≡ true → touches r rest ≡ true → q < r
  pub gathered : Gathered zero pages done a0 start a now fresh

pub first-touched : (ws : List Write) (f : Write) → Some f ≡ slice_get ws 0 → touches (f.at / 64) ws ≡ true
first-touched [] f h = absurd (cc)
first-touched (w ∷ ws) f h =
    let same : f ≡ w = same_Some f w h in
    or_left (f.at / 64 == w.at / 64) (touches (f.at / 64) ws) (eq-eqb (f.at / 64) (w.at / 64) (ap (λ (x : Write). x.at / 64) same))

-- what comes after the first page was there before
pub beyond-touched : (p q : ℕ) (ws : List Write) → touches q (beyond p ws) ≡ true → touches q ws ≡ true
beyond-touched p q ws t =
    ap (touches q) (sym (own-append-beyond p ws)) ∙ touches-append q (own p ws) (beyond p ws) ∙ or_right (touches q (own p ws)) (touches q (beyond p ws)) t

module _ (words : ℕ) (zero : List ℕ) (pages : List Page) (writes rest : List Write) (a0 : Option (List ℕ)) (start : Holder) (a : Option (List ℕ)) (now : Holder) (fresh : List Page) (f : Write) where
  -- one page on
  progress-more : (p : Progress words zero pages writes rest a0 start a now fresh) → Some f ≡ slice_get rest 0 → (more : List Write) (a' : Option (List ℕ)) (now' : Holder) (fresh' : List Page) → more ≡ beyond (f.at / 64) rest → Gathered zero pages (p.done ++ own (f.at / 64) rest) a0 start a' now' fresh' → Progress words zero pages writes more a0 start a' now' fresh'
  progress-more p h more a' now' fresh' is g =
      let page : ℕ = f.at / 64 in
      record {
        done = p.done ++ own page rest;
        whole = p.whole ∙ ap (λ xs. p.done ++ xs) (sym (own-append-beyond page rest)) ∙ sym (append_assoc p.done (own page rest) (beyond page rest)) ∙ ap (λ xs. (p.done ++ own page rest) ++ xs) (sym is);
        rising = ap (λ xs. rises 0 words (map address xs)) is ∙ beyond-rises page 0 words rest p.rising;
        later = λ q r t u.
            let behind : touches r (beyond page rest) ≡ true = ap (touches r) (sym is) ∙ u in
            ⊎_elim
            (λ d. p.later q r d (beyond-touched page r rest behind))
            (λ o. omega (arith, touches-AllOn page q (own page rest) (AllOn-own page rest) o, first-beyond 0 words rest f p.rising h r behind))
            (or_cases (touches q p.done) (touches q (own page rest)) (sym (touches-append q p.done (own page rest)) ∙ t));
        gathered = g;
      }

  -- what is short for the first writes is short for all
  progress-short : (p : Progress words zero pages writes rest a0 start a now fresh) → Some f ≡ slice_get rest 0 → (a' : Option (List ℕ)) (now' : Holder) (fresh' : List Page) → Short pages (p.done ++ own (f.at / 64) rest) a0 start a' now' fresh' → Short pages writes a0 start a' now' fresh'
  progress-short p h a' now' fresh' s =
      let page : ℕ = f.at / 64 in
      let front : List Write = p.done ++ own page rest in
      let apart = written_pages-append front (beyond page rest) (λ q r t u. ⊎_elim
      (λ d. p.later q r d (beyond-touched page r rest u))
      (λ o. omega (arith, touches-AllOn page q (own page rest) (AllOn-own page rest) o, first-beyond 0 words rest f p.rising h r u))
      (or_cases (touches q p.done) (touches q (own page rest)) (sym (touches-append q p.done (own page rest)) ∙ t))) in
      let whole : writes ≡ front ++ beyond page rest = p.whole ∙ ap (λ xs. p.done ++ xs) (sym (own-append-beyond page rest)) ∙ sym (append_assoc p.done (own page rest) (beyond page rest)) in
      let all = ap written_pages whole ∙ apart in
      let longer = ap length all in
      record {
        owns = s.owns;
        misses = s.misses;
        parts = s.parts;
        name = s.name;
        accounts = s.accounts;
        notes = notes-weaker (ShortNotes start.name.frames (length (written_pages front))) (ShortNotes start.name.frames (length (written_pages writes))) start.notes now'.notes s.notes
            (λ xs x. record { few = omega (arith, x.few, longer, length-append (written_pages front) (written_pages (beyond page rest))); each = x.each });
        lacking = λ others c. omega (arith, s.lacking others c, ap (need others pages) all, need-append others pages (written_pages front) (written_pages (beyond page rest)));
      }

  pub progress-goes : (own' more : List Write) (a' : Option (List ℕ)) (now' : Holder) (fresh' : List Page) → Progress words zero pages writes rest a0 start a now fresh → Some f ≡ slice_get rest 0 → own' ≡ own (f.at / 64) rest → more ≡ beyond (f.at / 64) rest
      → Goes zero pages (f.at / 64) own' a now fresh a' now' fresh' → Progress words zero pages writes more a0 start a' now' fresh'
  progress-goes own' more a' now' fresh' p h same is goes =
      progress-more p h more a' now' fresh' is
      (subst (λ xs. Gathered zero pages (p.done ++ xs) a0 start a' now' fresh') same
      (goes p.done a0 start (λ q t. p.later q (f.at / 64) t (first-touched rest f h)) p.gathered))

  pub progress-ends : (own' : List Write) (a' : Option (List ℕ)) (now' : Holder) (fresh' : List Page) (lack : Lack) → Progress words zero pages writes rest a0 start a now fresh → Some f ≡ slice_get rest 0 → own' ≡ own (f.at / 64) rest
      → Ends zero pages (f.at / 64) own' a now fresh a' now' fresh' lack → OnLack lack (Short pages writes a0 start a' now' fresh') (Unmade pages a0 start a' now' fresh')
  progress-ends own' a' now' fresh' Frame p h same ends =
      progress-short p h a' now' fresh'
      (subst (λ xs. Short pages (p.done ++ xs) a0 start a' now' fresh') same
      (ends p.done a0 start (λ q t. p.later q (f.at / 64) t (first-touched rest f h)) p.gathered))
  progress-ends own' a' now' fresh' Memory p h same ends =
      ends p.done a0 start (λ q t. p.later q (f.at / 64) t (first-touched rest f h)) p.gathered
