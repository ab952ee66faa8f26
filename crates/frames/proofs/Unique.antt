-- Only one outcome meets the promise of a reader or a writer. Assumes nothing.
use Prim.Native.Nat.{ℕ}
use mathlib.Core.List.{List}
use mathlib.Core.Bool.{cond}
use mathlib.Core.Path.{◌≡◌, refl, sym, ap, ap₂, ◌∙◌}
use lib.Dec.{eqb}
use lib.ListN.{replicate}
use Rattle.std.specs.Prelude.{Result, Ok, Err}
use Rattle.digits.specs.Once.{Once}
use Rattle.digits.specs.Refusals.{RECORD}
use Rattle.digits.specs.Told.{Told, gives, refuses}
use Rattle.digits.proofs.Sure.{same_refusal as same_told, not_refused}
use Rattle.frames.specs.declared.refusals.ReadRefusal.{ReadRefusal}
use Rattle.frames.specs.declared.refusals.WriteRefusal.{WriteRefusal}
use Rattle.frames.specs.declared.refusals.WriteRefusal.TheVariants.{Record, Room}
use Rattle.frames.specs.declared.reply.StaticReply.{StaticReply}
use Rattle.frames.specs.declared.reply.ReplyFrame.{ReplyFrame}
use Rattle.frames.specs.Refusals.{read_refused, read_told, write_told}
use Rattle.frames.specs.Kind.{Kind, Wrote}
use Rattle.frames.specs.Request.{request}
use Rattle.frames.specs.Dynamic.{dynamic}
use Rattle.frames.specs.Reply.{reply}
use Rattle.frames.specs.Unique.{OneOutcome}
use Rattle.frames.proofs.RefusalLaws.{same_read_refusal}

-- ---- a refusal can be recovered from what it means

module _ {A : Type 0} where
  same_refusal : (f g : ReadRefusal) → ◌≡◌ {A = Told A} (refuses (read_refused f)) (refuses (read_refused g)) → f ≡ g
  same_refusal f g e = same_read_refusal f g (same_told (read_refused f) (read_refused g) e)

  not_given : (a : A) (f : ReadRefusal) → gives a ≡ refuses (read_refused f) → ⊥
  not_given a f e = not_refused a (read_refused f) e

  -- ---- readers

  same_read : (a b : Result A ReadRefusal) → read_told a ≡ read_told b → a ≡ b
  same_read (Ok x) (Ok y) e = cc
  same_read (Ok x) (Err g) e = absurd (not_given x g e)
  same_read (Err f) (Ok y) e = absurd (not_given y f (sym e))
  same_read (Err f) (Err g) e = ap Err (same_refusal f g e)

-- ---- writers: one answer and one output

module _ {A : Type 0} where
  abbrev write_of : Told A → Result A WriteRefusal
  write_of (gives a) = Ok a
  write_of (refuses f) = cond (eqb f.number (RECORD 0).number) (Err (Record f.offset)) (Err Room)

  write_of_law : (a : Result A WriteRefusal) → write_of (write_told a) ≡ a
  write_of_law (Ok a) = refl
  write_of_law (Err (Record at)) = refl
  write_of_law (Err Room) = refl

  same_written : (a b : Result A WriteRefusal) → write_told a ≡ write_told b → a ≡ b
  same_written a b e = sym (write_of_law a) ∙ ap write_of e ∙ write_of_law b

wrote_once : {R : Type 0} (k : Kind R) (r : R) (out : List ℕ) → Once (λ (o : Result (Unit {0}) WriteRefusal × List ℕ). Wrote k r out o.0 o.1)
wrote_once k r out a b p q =
    ap₂ (λ (x : Result (Unit {0}) WriteRefusal) (o : List ℕ). (x, o)) (same_written a.0 b.0 (p.told ∙ sym q.told)) (p.bytes ∙ sym q.bytes)

frame_once : (r : StaticReply) (out : List ℕ) → Once (λ (a : ReplyFrame). Wrote reply r out a.answer a.frame)
frame_once r out a b p q =
    let e = wrote_once reply r out (a.answer, a.frame) (b.answer, b.frame) p q in
    ap (λ (o : Result (Unit {0}) WriteRefusal × List ℕ). record { answer = o.0; frame = o.1 }) e

pub one_outcome : OneOutcome
one_outcome = record {
  read_request = λ s a b p q. same_read a b (p ∙ sym q);
  write_request = wrote_once request;
  read_reply = λ s a b p q. same_read a b (p ∙ sym q);
  check_reply = λ s a b p q. same_read a b (p ∙ sym q);
  write_reply = wrote_once reply;
  read_reply_value = λ s a b p q. same_read a b (p ∙ sym q);
  write_reply_value = λ r. frame_once r (replicate 51 0);
  read_dynamic = λ s a b p q. same_read a b (p ∙ sym q);
  write_dynamic = wrote_once dynamic;
}
