use Rattle.std.proofs.Common.{◌≡◌, ℕ, ◌+◌, ◌||◌, List, [], length, map, refl, sym, ap, ◌∙◌, subst, arith}
use Rattle.std.specs.Prelude.{is_some}
use Rattle.std.specs.Arc.{arc_value}
use Rattle.std.proofs.lemmas.List.{length-map}
use Rattle.vf_frames.specs.Numbers.{rises}
use Rattle.vf_pages.specs.declared.held.Held.{Held}
use Rattle.vf_pages.specs.declared.refusal.PageRefusal.TheVariants as refusal
use Rattle.vf_pages.specs.Pages.{Page, pages_in, frames_in, occurs, entry, page_limit}
use Rattle.vf_pages.specs.Views.{pages_of}
use Rattle.vf_pages.specs.Writes.{touches, written_pages}
use Rattle.vf_pages.specs.Needs.{new_pages}
use Rattle.vf_pages.specs.InPlace.{in_place}
use Rattle.vf_pages.specs.Puts.{puts}
use Rattle.vf_pages.specs.Places.{IsTable}
use Rattle.vf_pages.specs.Gathered.{Gathered, OnLack}
use Rattle.vf_pages.specs.Calls.{Wrote, WroteAmong, OnRefusal, IsShort, IsUnmade}
use Rattle.vf_pages.proofs.Lookups.{length-pages}
use Rattle.vf_pages.proofs.Results.{pages-in_place, frames-in_place, wrote, wrote-among}
use Rattle.vf_pages.proofs.Changes.{refused-left, refused-among, count-same}
use Rattle.vf_frames.specs.Calls.{NoWin}
use Rattle.vf_frames.proofs.CallerLemmas.{notes-none}
use Rattle.vf_pages.proofs.Tables.{no-items, table-numbers, table-fits, table-known, written-fits, written-known}
use Rattle.vf_pages.proofs.change.change_pages.Goals as goal

pub returns-in-Err-clause-refused : goal.returns-in-Err-clause-refused
returns-in-Err-clause-refused g c =
    let pages = pages_of c.args.held.now.items in
    let hs = c.gather.new.held.items in
    let ws = c.args.writes.now in
    let a0 = g.F.Frames.numbers c.args.pool.now in
    let start = g.F.Frames.seen c.args.token.now in
    let a = g.F.Frames.numbers c.gather.new.pool in
    let now = g.F.Frames.seen c.gather.new.token in
    let fresh = pages_of c.gather.new.fresh.items in
    let last = g.F.Frames.seen c.give_up.new.token in
    let zero = (arc_value c.args.zero.now).items in
    let lack = c.in-Err.lack in
    let why = c.refusal_of.result in
    let is = subst (λ (hs : List Held). OnLack lack (why ≡ refusal.Short (length hs + new_pages (pages_of hs) (written_pages ws))) (why ≡ refusal.Memory)) c.deref-in-Err.ensures.value c.refusal_of.ensures in
    subst (λ (es : List Page). OnRefusal why
    (λ k. IsShort k ws (record { zero = zero; pages = pages; holder = start }) (record { zero = zero; pages = es; holder = last }))
    (IsUnmade (record { zero = zero; pages = pages; holder = start }) (record { zero = zero; pages = es; holder = last })))
    (sym c.gather.ensures.pages)
    (refused-left pages ws a0 start a now fresh lack why (length hs + new_pages (pages_of hs) (written_pages ws)) last zero
    (count-same hs pages (written_pages ws) c.gather.ensures.pages) c.in-Err.ensures.err is c.give_up.ensures.rest c.give_up.ensures.notes)

pub returns-in-Err-clause-refused_among : goal.returns-in-Err-clause-refused_among
returns-in-Err-clause-refused_among g c = λ others k.
    let pages = pages_of c.args.held.now.items in
    let hs = c.gather.new.held.items in
    let ws = c.args.writes.now in
    let a0 = g.F.Frames.numbers c.args.pool.now in
    let start = g.F.Frames.seen c.args.token.now in
    let a = g.F.Frames.numbers c.gather.new.pool in
    let now = g.F.Frames.seen c.gather.new.token in
    let fresh = pages_of c.gather.new.fresh.items in
    let zero = (arc_value c.args.zero.now).items in
    let lack = c.in-Err.lack in
    let why = c.refusal_of.result in
    let is = subst (λ (hs : List Held). OnLack lack (why ≡ refusal.Short (length hs + new_pages (pages_of hs) (written_pages ws))) (why ≡ refusal.Memory)) c.deref-in-Err.ensures.value c.refusal_of.ensures in
    refused-among pages ws a0 start a now fresh lack why (length hs + new_pages (pages_of hs) (written_pages ws)) zero (length zero)
    (count-same hs pages (written_pages ws) c.gather.ensures.pages) c.requires.writes c.requires.held c.in-Err.ensures.err is others k

pub returns-in-Err-clause-table : goal.returns-in-Err-clause-table
returns-in-Err-clause-table g c = subst (λ (es : List Page). IsTable c.args.places.now.items es) (sym c.gather.ensures.pages) c.requires.table

pub install-requires-clause-sorted : goal.install-requires-clause-sorted
install-requires-clause-sorted g c =
    let pages = pages_of c.args.held.now.items in
    let ws = c.args.writes.now in
    let fresh = pages_of c.gather.new.fresh.items in
    let same : pages_of c.make_room.new.held.items ≡ pages = ap pages_of c.make_room.ensures.held ∙ c.gather.ensures.pages in
    ap (λ es. rises 0 page_limit (pages_in es)) (c.write_kept-2.ensures.written ∙ ap (map (in_place ws fresh)) same)
    ∙ ap (rises 0 page_limit) (pages-in_place ws fresh pages) ∙ c.requires.sorted

pub install-requires-clause-owns : goal.install-requires-clause-owns
install-requires-clause-owns g c = λ f.
    let pages = pages_of c.args.held.now.items in
    let ws = c.args.writes.now in
    let fresh = pages_of c.gather.new.fresh.items in
    let same : pages_of c.make_room.new.held.items ≡ pages = ap pages_of c.make_room.ensures.held ∙ c.gather.ensures.pages in
    let written = ap (λ es. occurs f (frames_in es)) (c.write_kept-2.ensures.written ∙ ap (map (in_place ws fresh)) same) ∙ ap (occurs f) (frames-in_place ws fresh pages) in
    omega (arith, written, c.in_default.ensures.ok.owns f)

pub install-requires-clause-room : goal.install-requires-clause-room
install-requires-clause-room g c =
    let written = ap length c.write_kept-2.ensures.written in
    let fresh = pages_of c.gather.new.fresh.items in
    omega (arith, c.in-Ok.ensures.room, c.write_kept-2.ensures.capacity, written, length-map (pages_of c.make_room.new.held.items) (in_place c.args.writes.now fresh), length-pages c.write_kept-2.new.held.items, length-pages c.make_room.new.held.items)

pub note_added-requires-clause-fits : goal.note_added-requires-clause-fits
note_added-requires-clause-fits g c =
    let zero = (arc_value c.args.zero.now).items in
    let pages = pages_of c.args.held.now.items in
    let ws = c.args.writes.now in
    let a0 = g.F.Frames.numbers c.args.pool.now in
    let start = g.F.Frames.seen c.args.token.now in
    let a = g.F.Frames.numbers c.gather.new.pool in
    let now = g.F.Frames.seen c.gather.new.token in
    let fresh = pages_of c.gather.new.fresh.items in
    let last = g.F.Frames.seen c.install.new.token in
    let words : c.as_slice-zero.result.now ≡ zero = rw c.deref.ensures at c.as_slice-zero.ensures.value in
    let gathered : Gathered zero pages ws a0 start a now fresh = subst (λ (xs : List ℕ). Gathered xs pages ws a0 start a now fresh) words c.in_default.ensures.ok in
    let same : pages_of c.make_room.new.held.items ≡ pages = ap pages_of c.make_room.ensures.held ∙ c.gather.ensures.pages in
    let end : pages_of c.install.new.held.items ≡ puts fresh (map (in_place ws fresh) pages) = c.install.ensures.pages ∙ ap (puts fresh) (c.write_kept-2.ensures.written ∙ ap (map (in_place ws fresh)) same) in
    let wrote_held = (wrote zero pages ws a0 start a now fresh last gathered c.install.ensures.rest c.install.ensures.notes).held in
    let each : (p : ℕ) → is_some (entry p (pages_of c.install.new.held.items)) ≡ (touches p ws || is_some (entry p pages)) = λ p. ap (λ es. is_some (entry p es)) end ∙ wrote_held p in
    written-fits (length zero) (length c.args.places.now.items) (pages_of c.install.new.held.items) pages ws each c.requires.writes c.requires.wide
    (table-fits c.args.places.now.items pages c.requires.table)

pub note_added-requires-clause-known : goal.note_added-requires-clause-known
note_added-requires-clause-known g c =
    let zero = (arc_value c.args.zero.now).items in
    let pages = pages_of c.args.held.now.items in
    let ws = c.args.writes.now in
    let a0 = g.F.Frames.numbers c.args.pool.now in
    let start = g.F.Frames.seen c.args.token.now in
    let a = g.F.Frames.numbers c.gather.new.pool in
    let now = g.F.Frames.seen c.gather.new.token in
    let fresh = pages_of c.gather.new.fresh.items in
    let last = g.F.Frames.seen c.install.new.token in
    let words : c.as_slice-zero.result.now ≡ zero = rw c.deref.ensures at c.as_slice-zero.ensures.value in
    let gathered : Gathered zero pages ws a0 start a now fresh = subst (λ (xs : List ℕ). Gathered xs pages ws a0 start a now fresh) words c.in_default.ensures.ok in
    let same : pages_of c.make_room.new.held.items ≡ pages = ap pages_of c.make_room.ensures.held ∙ c.gather.ensures.pages in
    let end : pages_of c.install.new.held.items ≡ puts fresh (map (in_place ws fresh) pages) = c.install.ensures.pages ∙ ap (puts fresh) (c.write_kept-2.ensures.written ∙ ap (map (in_place ws fresh)) same) in
    let wrote_held = (wrote zero pages ws a0 start a now fresh last gathered c.install.ensures.rest c.install.ensures.notes).held in
    let each : (p : ℕ) → is_some (entry p (pages_of c.install.new.held.items)) ≡ (touches p ws || is_some (entry p pages)) = λ p. ap (λ es. is_some (entry p es)) end ∙ wrote_held p in
    λ p some. written-known (pages_of c.install.new.held.items) pages ws each p (table-known c.args.places.now.items pages c.requires.table p some)

pub returns-clause-table : goal.returns-clause-table
returns-clause-table g c =
    let zero = (arc_value c.args.zero.now).items in
    let pages = pages_of c.args.held.now.items in
    let ws = c.args.writes.now in
    let a0 = g.F.Frames.numbers c.args.pool.now in
    let start = g.F.Frames.seen c.args.token.now in
    let a = g.F.Frames.numbers c.gather.new.pool in
    let now = g.F.Frames.seen c.gather.new.token in
    let fresh = pages_of c.gather.new.fresh.items in
    let last = g.F.Frames.seen c.install.new.token in
    let words : c.as_slice-zero.result.now ≡ zero = rw c.deref.ensures at c.as_slice-zero.ensures.value in
    let gathered : Gathered zero pages ws a0 start a now fresh = subst (λ (xs : List ℕ). Gathered xs pages ws a0 start a now fresh) words c.in_default.ensures.ok in
    let same : pages_of c.make_room.new.held.items ≡ pages = ap pages_of c.make_room.ensures.held ∙ c.gather.ensures.pages in
    let end : pages_of c.install.new.held.items ≡ puts fresh (map (in_place ws fresh) pages) = c.install.ensures.pages ∙ ap (puts fresh) (c.write_kept-2.ensures.written ∙ ap (map (in_place ws fresh)) same) in
    let wrote_held = (wrote zero pages ws a0 start a now fresh last gathered c.install.ensures.rest c.install.ensures.notes).held in
    let each : (p : ℕ) → is_some (entry p (pages_of c.install.new.held.items)) ≡ (touches p ws || is_some (entry p pages)) = λ p. ap (λ es. is_some (entry p es)) end ∙ wrote_held p in
    c.note_added.ensures.table pages c.requires.sorted c.requires.table (omega (arith, c.len-before.ensures, length-pages c.gather.new.held.items, ap length c.gather.ensures.pages))
    (written-known (pages_of c.install.new.held.items) pages ws each)

pub returns-clause-ok : goal.returns-clause-ok
returns-clause-ok g c =
    let zero = (arc_value c.args.zero.now).items in
    let pages = pages_of c.args.held.now.items in
    let ws = c.args.writes.now in
    let a0 = g.F.Frames.numbers c.args.pool.now in
    let start = g.F.Frames.seen c.args.token.now in
    let a = g.F.Frames.numbers c.gather.new.pool in
    let now = g.F.Frames.seen c.gather.new.token in
    let fresh = pages_of c.gather.new.fresh.items in
    let last = g.F.Frames.seen c.install.new.token in
    let words : c.as_slice-zero.result.now ≡ zero = rw c.deref.ensures at c.as_slice-zero.ensures.value in
    let gathered : Gathered zero pages ws a0 start a now fresh = subst (λ (xs : List ℕ). Gathered xs pages ws a0 start a now fresh) words c.in_default.ensures.ok in
    let same : pages_of c.make_room.new.held.items ≡ pages = ap pages_of c.make_room.ensures.held ∙ c.gather.ensures.pages in
    let end : pages_of c.install.new.held.items ≡ puts fresh (map (in_place ws fresh) pages) = c.install.ensures.pages ∙ ap (puts fresh) (c.write_kept-2.ensures.written ∙ ap (map (in_place ws fresh)) same) in
    subst (λ (es : List Page). Wrote ws (record { zero = zero; pages = pages; holder = start }) (record { zero = zero; pages = es; holder = last })) (sym end)
    (wrote zero pages ws a0 start a now fresh last gathered c.install.ensures.rest c.install.ensures.notes)

pub returns-clause-ok_among : goal.returns-clause-ok_among
returns-clause-ok_among g c = λ others k.
    let zero = (arc_value c.args.zero.now).items in
    let pages = pages_of c.args.held.now.items in
    let ws = c.args.writes.now in
    let a0 = g.F.Frames.numbers c.args.pool.now in
    let start = g.F.Frames.seen c.args.token.now in
    let a = g.F.Frames.numbers c.gather.new.pool in
    let now = g.F.Frames.seen c.gather.new.token in
    let fresh = pages_of c.gather.new.fresh.items in
    let last = g.F.Frames.seen c.install.new.token in
    let words : c.as_slice-zero.result.now ≡ zero = rw c.deref.ensures at c.as_slice-zero.ensures.value in
    let gathered : Gathered zero pages ws a0 start a now fresh = subst (λ (xs : List ℕ). Gathered xs pages ws a0 start a now fresh) words c.in_default.ensures.ok in
    let same : pages_of c.make_room.new.held.items ≡ pages = ap pages_of c.make_room.ensures.held ∙ c.gather.ensures.pages in
    let end : pages_of c.install.new.held.items ≡ puts fresh (map (in_place ws fresh) pages) = c.install.ensures.pages ∙ ap (puts fresh) (c.write_kept-2.ensures.written ∙ ap (map (in_place ws fresh)) same) in
    subst (λ (es : List Page). WroteAmong ws (record { zero = zero; pages = pages; holder = start }) (record { zero = zero; pages = es; holder = last }) others) (sym end)
    (wrote-among zero pages ws a0 start a now fresh last gathered others k)

pub returns-then-len-eq0-clause-ok : goal.returns-then-len-eq0-clause-ok
returns-then-len-eq0-clause-ok g c =
    let zero = (arc_value c.args.zero.now).items in
    let pages = pages_of c.args.held.now.items in
    let ws = c.args.writes.now in
    let a0 = g.F.Frames.numbers c.args.pool.now in
    let start = g.F.Frames.seen c.args.token.now in
    let a = g.F.Frames.numbers c.gather.new.pool in
    let now = g.F.Frames.seen c.gather.new.token in
    let fresh = pages_of c.gather.new.fresh.items in
    let words : c.as_slice-zero.result.now ≡ zero = rw c.deref.ensures at c.as_slice-zero.ensures.value in
    let gathered : Gathered zero pages ws a0 start a now fresh = subst (λ (xs : List ℕ). Gathered xs pages ws a0 start a now fresh) words c.in_default.ensures.ok in
    let none : c.gather.new.fresh.items ≡ [] = no-items c.gather.new.fresh.items (omega (arith, c.len.ensures, c.if-len-eq0.true)) in
    let written : pages_of c.write_kept.new.held.items ≡ map (in_place ws fresh) pages = c.write_kept.ensures.written ∙ ap (map (in_place ws fresh)) c.gather.ensures.pages in
    let end : pages_of c.write_kept.new.held.items ≡ puts fresh (map (in_place ws fresh) pages) = written ∙ ap (λ (hs : List Held). puts (pages_of hs) (map (in_place ws fresh) pages)) (sym none) in
    subst (λ (es : List Page). Wrote ws (record { zero = zero; pages = pages; holder = start }) (record { zero = zero; pages = es; holder = now })) (sym end)
    (wrote zero pages ws a0 start a now fresh now gathered (record { misses = refl; parts = refl; name = refl }) (notes-none NoWin now.notes refl))

pub returns-then-len-eq0-clause-ok_among : goal.returns-then-len-eq0-clause-ok_among
returns-then-len-eq0-clause-ok_among g c = λ others k.
    let zero = (arc_value c.args.zero.now).items in
    let pages = pages_of c.args.held.now.items in
    let ws = c.args.writes.now in
    let a0 = g.F.Frames.numbers c.args.pool.now in
    let start = g.F.Frames.seen c.args.token.now in
    let a = g.F.Frames.numbers c.gather.new.pool in
    let now = g.F.Frames.seen c.gather.new.token in
    let fresh = pages_of c.gather.new.fresh.items in
    let words : c.as_slice-zero.result.now ≡ zero = rw c.deref.ensures at c.as_slice-zero.ensures.value in
    let gathered : Gathered zero pages ws a0 start a now fresh = subst (λ (xs : List ℕ). Gathered xs pages ws a0 start a now fresh) words c.in_default.ensures.ok in
    let none : c.gather.new.fresh.items ≡ [] = no-items c.gather.new.fresh.items (omega (arith, c.len.ensures, c.if-len-eq0.true)) in
    let written : pages_of c.write_kept.new.held.items ≡ map (in_place ws fresh) pages = c.write_kept.ensures.written ∙ ap (map (in_place ws fresh)) c.gather.ensures.pages in
    let end : pages_of c.write_kept.new.held.items ≡ puts fresh (map (in_place ws fresh) pages) = written ∙ ap (λ (hs : List Held). puts (pages_of hs) (map (in_place ws fresh) pages)) (sym none) in
    subst (λ (es : List Page). WroteAmong ws (record { zero = zero; pages = pages; holder = start }) (record { zero = zero; pages = es; holder = now }) others) (sym end)
    (wrote-among zero pages ws a0 start a now fresh now gathered others k)

pub returns-then-len-eq0-clause-sorted : goal.returns-then-len-eq0-clause-sorted
returns-then-len-eq0-clause-sorted g c =
    let ws = c.args.writes.now in
    let fresh = pages_of c.gather.new.fresh.items in
    ap (λ es. rises 0 page_limit (pages_in es)) (c.write_kept.ensures.written ∙ ap (map (in_place ws fresh)) c.gather.ensures.pages)
    ∙ ap (rises 0 page_limit) (pages-in_place ws fresh (pages_of c.args.held.now.items)) ∙ c.requires.sorted

pub returns-then-len-eq0-clause-table : goal.returns-then-len-eq0-clause-table
returns-then-len-eq0-clause-table g c =
    let pages = pages_of c.args.held.now.items in
    let ws = c.args.writes.now in
    let fresh = pages_of c.gather.new.fresh.items in
    table-numbers c.args.places.now.items pages (pages_of c.write_kept.new.held.items)
    (sym (ap pages_in (c.write_kept.ensures.written ∙ ap (map (in_place ws fresh)) c.gather.ensures.pages) ∙ pages-in_place ws fresh pages)) c.requires.table

pub returns-then-len-eq0-clause-held : goal.returns-then-len-eq0-clause-held
returns-then-len-eq0-clause-held g c = λ f.
    let pages = pages_of c.args.held.now.items in
    let ws = c.args.writes.now in
    let fresh = pages_of c.gather.new.fresh.items in
    let none : c.gather.new.fresh.items ≡ [] = no-items c.gather.new.fresh.items (omega (arith, c.len.ensures, c.if-len-eq0.true)) in
    let same = ap (λ es. occurs f (frames_in es)) (c.write_kept.ensures.written ∙ ap (map (in_place ws fresh)) c.gather.ensures.pages) ∙ ap (occurs f) (frames-in_place ws fresh pages) in
    let gone = ap (λ (hs : List Held). occurs f (frames_in (pages_of hs))) none in
    omega (arith, same, gone, c.in_default.ensures.ok.owns f)

pub write_kept-requires-clause-sorted : goal.write_kept-requires-clause-sorted
write_kept-requires-clause-sorted g c = ap (λ es. rises 0 page_limit (pages_in es)) c.gather.ensures.pages ∙ c.requires.sorted

pub write_kept-requires-clause-table : goal.write_kept-requires-clause-table
write_kept-requires-clause-table g c = subst (λ (es : List Page). IsTable c.args.places.now.items es) (sym c.gather.ensures.pages) c.requires.table

pub write_kept-requires-clause-taken : goal.write_kept-requires-clause-taken
write_kept-requires-clause-taken g c = λ p t. c.in_default.ensures.taken p t
