-- A small capture and its list, written out.
use Rattle.std.specs.Prelude.{ℕ, List, [], ◌∷◌, ◌++◌, true, ◌≡◌, replicate}
use Prim.Native.String.{String}
use Rattle.digits.specs.Text.{codes}
use Rattle.listing.specs.Text.{address, looks}
use Rattle.listing.specs.Listing.{short, list_of}
use Rattle.listing.specs.Sizes.{longest_list}

-- a frame with this text between its lead byte and its CR, and then the rest
abbrev pub framed : ℕ → String → List ℕ → List ℕ
framed lead text rest = lead ∷ (codes text ++ (13 ∷ rest))

-- two requests to two stopwatches; their replies mixed, with a higher bib first; a dynamic request; a stray by its address; bytes between frames; a cut frame
abbrev pub small : List ℕ
small =
    framed 17 "R A00700000P000002000S"
    (framed 17 "R3101200000P000002000S"
    (framed 18 "R SORA0000700022003014015006P010203040506070809  "
    (framed 18 "R3SOR10001200009004001002003P111213141516171819  "
    (framed 19 "R 1A000410060016000025500000000000000000001S"
    (framed 18 "R3SORA0000700033000002000000P000000000000000000  "
    (framed 18 "R SOEA0000700015003014015006P212223242526272829  "
    (codes "xx" ++ (18 ∷ codes "R S"))))))))

pub record ListWorked : Type 0 where
  pub small_list : list_of (replicate 204 0) (replicate 4 0) small
      ≡ codes "seat\tfrom\taddr\tnumber\tbib\tgroup\trun\tphys\tlog\tinfo\ttime\tdate\tstatus\n"
      ++ codes "0\tA\t-\t007\t00022\t003\t014\t015\t006\tP\t0102030405\t06070809\tR\n"
      ++ codes "0\tA\t-\t007\t00015\t003\t014\t015\t006\tP\t2122232425\t26272829\tE\n"
      ++ codes "1\t1\t3\t012\t00009\t004\t001\t002\t003\tP\t1112131415\t16171819\tR\n"
      ++ codes "end\t2\t3\t1\t2\n"
  -- how each address is shown
  pub addresses : looks address (codes " 0123456789") ≡ codes "-0123456789"
  -- 32,768 bytes are listed; one more is too long
  pub not_too_long : short [] [] (replicate 32768 0) ≡ true
  pub too_long_case : list_of [] [] (replicate 32769 0) ≡ codes "input too long\n"
  -- the length of the longest list, as a number
  pub longest : longest_list ≡ 14687
