-- A read is lent the rest of out, and what it leaves is laid there.
use Rattle.std.specs.Prelude.{ℕ, ◌-◌, ◌≤◌, ◌≡◌, List, ◌++◌, length, take, drop}
use Rattle.std.proofs.Common.{ap, ◌∙◌}
use native.Mathlib.Omega.{arith}
use Rattle.std.proofs.lemmas.List.{append-nil, drop_all, length-drop, length-append, length-take-le}
use borrow.Rule.Slice.PartMut.{put_mid}
use Rattle.edge.specs.Filling.{laid}

pub put_rest : (out : List ℕ) (n : ℕ) (room : List ℕ) → put_mid n (length out - n) out room ≡ laid out n room
put_rest out n room =
    ap (λ z. take n out ++ (room ++ z)) (drop_all (length out - n) (drop n out) (omega (arith, length-drop n out))) ∙ ap (λ z. take n out ++ z) (append-nil room)

pub length_laid : (out : List ℕ) (n : ℕ) (room : List ℕ) → n ≤ length out → length room ≡ length (drop n out) → length (laid out n room) ≡ length out
length_laid out n room h e = omega (arith, h, e, length-append (take n out) room, length-take-le n out h, length-drop n out)
