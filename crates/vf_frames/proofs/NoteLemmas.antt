-- Notes of one call after another.
use Rattle.std.proofs.Common.{◌≡◌, ◌+◌, cond, List, [], ◌∷◌, ◌++◌, length, refl, sym, ap, ◌∙◌, arith, subst, append_assoc, append-nil}
use Rattle.std.specs.Prelude.{Option, Some, None}
use Rattle.std.specs.List.{Any}
use Rattle.std.proofs.lemmas.List.{get_or_append_left, get_or-append-add, length-append}
use Rattle.std.proofs.lemmas.List.Sums.{sum_by-append}
use Rattle.vf_frames.specs.declared.holder.Note.{Note}
use Rattle.vf_frames.specs.declared.holder.Holder.{Holder}
use Rattle.vf_frames.specs.Calls.{wins, NotesGrow, SameRest, NoWin}

pub notes-then : (P Q R : List Note → Type 0) (a b c : Option (List Note)) → NotesGrow P a b → NotesGrow Q b c → ((x y : List Note) → P x → Q y → R (x ++ y)) → NotesGrow R a c
notes-then P Q R None b c p q f = subst (λ o. NotesGrow Q o c) p q
notes-then P Q R (Some xs) b c p q f =
    let more : NotesGrow Q (Some (xs ++ p.0)) c = subst (λ o. NotesGrow Q o c) p.1 q in
    (p.0 ++ more.0, more.1 ∙ ap (λ ns. Some ns) (append_assoc xs p.0 more.0), f p.0 more.0 p.2 more.2)

pub notes-weaker : (P Q : List Note → Type 0) (a b : Option (List Note)) → NotesGrow P a b → ((x : List Note) → P x → Q x) → NotesGrow Q a b
notes-weaker P Q None b p f = p
notes-weaker P Q (Some xs) b p f = (p.0, p.1, f p.0 p.2)

pub notes-none : (P : List Note → Type 0) (a : Option (List Note)) → P [] → NotesGrow P a a
notes-none P None p = refl
notes-none P (Some xs) p = ([], ap (λ ns. Some ns) (sym (append-nil xs)), p)

pub wins-append : (xs ys : List Note) → wins (xs ++ ys) ≡ wins xs + wins ys
wins-append xs ys = sum_by-append (λ n. cond n.won 1 0) xs ys

pub any-left : (P : Note → Type 0) (xs ys : List Note) → Any P xs → Any P (xs ++ ys)
any-left P xs ys h =
    (h.0, h.1, omega (arith, h.2, length-append xs ys), get_or_append_left xs ys h.1 h.0 h.2 ∙ h.3, h.4)

pub any-right : (P : Note → Type 0) (xs ys : List Note) → Any P ys → Any P (xs ++ ys)
any-right P xs ys h =
    (length xs + h.0, h.1, omega (arith, h.2, length-append xs ys), get_or-append-add xs ys h.0 h.1 ∙ h.3, h.4)

pub any-one : (P : Note → Type 0) (n : Note) → P n → Any P (n ∷ [])
any-one P n p = (0, n, omega arith, refl, p)

pub rest-then : (a b c : Holder) → SameRest a b → SameRest b c → SameRest a c
rest-then a b c p q = record { misses = q.misses ∙ p.misses; parts = q.parts ∙ p.parts; name = q.name ∙ p.name }

pub no-win-then : (a b c : Option (List Note)) → NotesGrow NoWin a b → NotesGrow NoWin b c → NotesGrow NoWin a c
no-win-then a b c p q = notes-then NoWin NoWin NoWin a b c p q (λ xs ys x y. omega (arith, wins-append xs ys, x, y))
