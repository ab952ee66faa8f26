-- What the label of a reply says is what its record says; and a frame that is accepted as a reply is as long as a cell. Assumes nothing.
use Prim.Native.Nat.{ℕ}
use mathlib.Core.List.{List}
use mathlib.Core.Bool.{true, false, true≢false, false≢true}
use mathlib.Core.Path.{◌≡◌, refl, sym, ap, subst, ◌∙◌}
use lib.ListN.{length}
use lib.Dec.{eqb}
use borrow.Author.Tests.{eqb-true}
use Rattle.digits.specs.Told.{Told, gives, refuses}
use Rattle.digits.proofs.Sure.{not_refused}
use Rattle.frames.specs.declared.reply.StaticReply.{StaticReply}
use Rattle.frames.specs.declared.reply.ReplyLabel.{ReplyLabel}
use Rattle.frames.specs.Kind.{Kind, lead_is, head_told, read}
use Rattle.frames.specs.Reply.{reply, label_of, labelled, is_good, label_at}
use Rattle.frames.proofs.HeadLaws.{tried_gives, then_gives}
use Rattle.frames.proofs.LabelLaws.{lettered, Labelled, label_legal, label_is_read}
use Rattle.desk.specs.declared.key.Key.{Key}
use Rattle.desk.specs.Limits.{cell_size}
use Rattle.desk.specs.Key.{key_in, same_key}
use Rattle.desk.specs.Tally.{status_at}
use Rattle.desk.specs.Hearing.{heard, has_key, status_in}
use Rattle.desk.specs.Rule.{Frame, is_to, letter_in}
use Rattle.desk.specs.Events.{to_reply, addressed}
use Rattle.desk.specs.Orders.{key_answered, key_of}

-- a frame that is accepted has its kind's length
read_long : {R : Type 0} (k : Kind R) (s : List ℕ) (r : R) → read k s ≡ gives r → length s ≡ k.size
unfolding read head_told
read_long k s r e =
    let h = then_gives (head_told k.lead k.size s) _ r e in
    let a = tried_gives (lead_is k.lead s) _ _ _ h.0 in
    let b = tried_gives (eqb (length s) k.size) _ _ _ a.1 in
    eqb-true _ _ b.0

labelled_gives : (x : Told StaticReply) (l : ReplyLabel) → labelled x ≡ gives l → (r : StaticReply) × (x ≡ gives r)
labelled_gives (gives r) l e = (r, refl)
labelled_gives (refuses why) l e = absurd (not_refused l why (sym e))

pub heard_long : (f : List ℕ) (l : ReplyLabel) → heard f ≡ gives l → length f ≡ cell_size
unfolding heard
heard_long f l e = let r = labelled_gives (read reply f) l e in read_long reply f r.0 r.1

-- a frame that is heard is a reply, and its status is its byte at 5
pub heard_reply : (f : List ℕ) (l : ReplyLabel) → heard f ≡ gives l → (r : StaticReply) × ((read reply f ≡ gives r) × (l.status ≡ status_at f))
unfolding heard
heard_reply f l e = go (read reply f) refl e
  where
    go : (t : Told StaticReply) → read reply f ≡ t → labelled t ≡ gives l → (r : StaticReply) × ((read reply f ≡ gives r) × (l.status ≡ status_at f))
    go (gives r) q d = let s : label_of r ≡ l = cc in (r, (q, sym (ap (λ (x : ReplyLabel). x.status) s) ∙ (lettered f r q).status_is))
    go (refuses why) q d = absurd (not_refused l why (sym d))

-- ---- the quick check: a good reply has the label of its bytes, and no other frame has one

pub good_heard : (f : List ℕ) → is_good (read reply f) ≡ true → heard f ≡ gives (label_at f)
unfolding heard
good_heard f g = go (read reply f) refl g
  where
    go : (t : Told StaticReply) → read reply f ≡ t → is_good t ≡ true → labelled t ≡ gives (label_at f)
    go (gives r) e h = ap gives (sym (label_is_read f r e))
    go (refuses why) e h = absurd (false≢true h)

pub bad_heard : (f : List ℕ) → is_good (read reply f) ≡ false → (l : ReplyLabel) → gives l ≡ heard f → ⊥
unfolding heard
bad_heard f g l = go (read reply f) g
  where
    go : (t : Told StaticReply) → is_good t ≡ false → gives l ≡ labelled t → ⊥
    go (gives r) h e = true≢false h
    go (refuses why) h e = not_refused l why e

pub heard_legal : (f : List ℕ) (l : ReplyLabel) → heard f ≡ gives l → Labelled l
unfolding heard
heard_legal f l e = go (read reply f) refl e
  where
    go : (t : Told StaticReply) → read reply f ≡ t → labelled t ≡ gives l → Labelled l
    go (gives r) q d = let s : label_of r ≡ l = cc in subst Labelled s (label_legal f r q)
    go (refuses why) q d = absurd (not_refused l why (sym d))

-- ---- status and key are the record's

letter_told : (t : Told StaticReply) → status_in (labelled t) ≡ letter_in t
letter_told (gives r) = refl
letter_told (refuses why) = refl

pub letter : (f : Frame) → status_in (heard f) ≡ letter_in (read reply f)
unfolding heard
letter f = letter_told (read reply f)

to_told : (k : Key) (t : Told StaticReply) → is_to k t ≡ has_key k (labelled t)
unfolding same_key
to_told k (gives r) = refl
to_told k (refuses why) = refl

pub addressed_heard : (k : Key) (f : Frame) → addressed k (to_reply f) ≡ has_key k (heard f)
unfolding addressed heard
addressed_heard k f = to_told k (read reply f)

key_told : (t : Told StaticReply) (l : ReplyLabel) → labelled t ≡ gives l → key_answered t ≡ gives (key_in l)
key_told (gives r) l e = let q : label_of r ≡ l = cc in ap (λ (x : ReplyLabel). gives (key_in x)) q
key_told (refuses why) l e = absurd (not_refused l why (sym e))

pub key_heard : (f : Frame) (l : ReplyLabel) → heard f ≡ gives l → key_of (to_reply f) ≡ gives (key_in l)
unfolding heard
key_heard f l e = key_told (read reply f) l e
