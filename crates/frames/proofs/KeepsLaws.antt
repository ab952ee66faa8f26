-- What a writer leaves unchanged, for every kind whose frames have the kind's size. Assumes nothing.
use Prim.Native.Nat.{ℕ}
use mathlib.Core.List.{List, ◌++◌}
use mathlib.Core.Path.{◌≡◌, sym, ap, ◌∙◌}
use native.Mathlib.Omega.{arith}
use lib.Dec.{eqb, leb}
use borrow.Author.Tests.{eqb-true, leb-true}
use lib.ListN.{length, drop, length-append, length-drop}
use lib.Seq.{drop_at}
use Rattle.digits.specs.declared.refusal.Refusal.{Refusal}
use Rattle.digits.specs.Told.{gives, refuses}
use Rattle.std.specs.Prelude.{Result}
use Rattle.frames.specs.declared.refusals.WriteRefusal.{WriteRefusal}
use Rattle.frames.specs.Refusals.{write_told}
use Rattle.frames.specs.Kind.{Kind, wrong_in, frame_of, write_tried, Wrote}
use Rattle.frames.specs.Request.{request}
use Rattle.frames.specs.Reply.{reply}
use Rattle.frames.specs.Dynamic.{dynamic}
use Rattle.frames.specs.Keeps.{Keeps, WritersKeep}
use Rattle.frames.proofs.HeadLaws.{tried_gives}
use Rattle.frames.proofs.RequestLaws.{length_request}
use Rattle.frames.proofs.ReplyLaws.{length_reply}
use Rattle.frames.proofs.DynamicLaws.{length_dynamic}

module _ {R : Type 0} (k : Kind R) (long : (r : R) → wrong_in k r ≡ 0 → length (frame_of k r) ≡ k.size) where
  left : (r : R) (out out' : List ℕ) (a : Result (Unit {0}) WriteRefusal) → Wrote k r out a out' → (f : Refusal) → write_told a ≡ refuses f → out' ≡ out
  left r out out' a w f e =
      let q : write_tried (wrong_in k r) k.size (length out) ≡ refuses f = sym w.told ∙ e in
      rw q at w.bytes

  only_frame : (r : R) (out out' : List ℕ) (a : Result (Unit {0}) WriteRefusal) → Wrote k r out a out' → write_told a ≡ gives tt
      → (length out' ≡ length out) × (drop k.size out' ≡ drop k.size out)
  unfolding write_tried
  only_frame r out out' a w e =
      let q : write_tried (wrong_in k r) k.size (length out) ≡ gives tt = sym w.told ∙ e in
      let fine = tried_gives (eqb (wrong_in k r) 0) _ _ _ q in
      let room = leb-true k.size (length out) (tried_gives (leb k.size (length out)) _ _ _ fine.1).0 in
      let size = long r (eqb-true (wrong_in k r) 0 fine.0) in
      let is : out' ≡ frame_of k r ++ drop k.size out = rw q at w.bytes in
      let added : length (frame_of k r ++ drop k.size out) ≡ length out = length-append (frame_of k r) (drop k.size out) ∙ omega (arith, size, room, length-drop k.size out) in
      (ap length is ∙ added, ap (drop k.size) is ∙ drop_at (frame_of k r) (drop k.size out) k.size size)

  keeps : Keeps k
  keeps = record { refused = left; written = only_frame }

pub writers_keep : WritersKeep
writers_keep = (keeps request length_request, keeps reply length_reply, keeps dynamic length_dynamic)
