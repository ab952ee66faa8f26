-- Machines over tokens: what holds along a reading, from tokens to lines, and codes by a guess. Assumes nothing.
use Prim.Native.Nat.{ℕ}
use mathlib.Core.Bool.{Bool, true, false≢true, ◌&&◌}
use mathlib.Core.List.{List, [], ◌∷◌, ◌++◌, map, append_assoc, append-nil, map-append}
use mathlib.Core.Path.{◌≡◌, refl, sym, ap, ◌∙◌}
use lib.Dec.{eqb}
use borrow.Author.Tests.{eqb-true, eq-eqb}
use Rattle.digits.proofs.Tests.{by-test, and_true, and_l, and_r}
use Rattle.lines.specs.Lines.{Line, every, is_line}
use Rattle.lines.specs.Machine.{Machine, next, after}
use Rattle.lines.specs.Tokens.{Code, IsCode, write_all, over_lines, ExtendsTokens, ClosesTokens, TakesTokens, ByTokens, same, sure, GuessIsCode}
use Rattle.lines.proofs.Tests.{every_cons, by_step, not_both}
use Rattle.lines.proofs.LineLaws.{lines_joined, rest_joined, joined_append}

-- ---- what holds at the start, and still holds after each letter that is taken, holds after every reading

module _ {W S L : Type 0} (m : Machine W S L) (fits : L → Bool) (Holds : List L → S → Type 0)
    (kept : (ks : List L) (k : L) (s s' : S) → fits k ≡ true → Holds ks s → m.step s k ≡ next s' → Holds (ks ++ k ∷ []) s') where
  onward : (ks ls : List L) (s q : S) → every fits ls ≡ true → Holds ks s → after m s ls ≡ next q → Holds (ks ++ ls) q
  unfolding after
  onward ks [] s q f h a = let e : s ≡ q = cc in rw append-nil (rw e at h)
  onward ks (l ∷ ls) s q f h a =
      let c = every_cons fits l ls f in
      by_step (m.step s l)
      (λ e. absurd (not_both (after m s (l ∷ ls)) q a (rw e)))
      (λ s' e.
      let k : Holds (ks ++ l ∷ []) s' = kept ks l s s' c.0 h e in
      rw append_assoc at (onward (ks ++ l ∷ []) ls s' q c.1 k (rw e at a)))

  pub along : Holds [] m.start → (ks : List L) (s : S) → every fits ks ≡ true → after m m.start ks ≡ next s → Holds ks s
  along h ks s f a = onward [] ks m.start s f h a

-- ---- from tokens to lines

module _ {W S K : Type 0} (c : Code K) (code : IsCode c) (m : Machine W S K) where
  -- lines that the machine over lines takes are tokens, written
  record Scanned (ls : List Line) (s q : S) : Type 0 where
    tokens : List K
    are_lines : map c.write tokens ≡ ls
    fit : every c.fits tokens ≡ true
    taken : after m s tokens ≡ next q

  scanned : (ls : List Line) (s q : S) → after (over_lines c m) s ls ≡ next q → Scanned ls s q
  unfolding after
  scanned [] s q a = record { tokens = []; are_lines = refl; fit = refl; taken = a }
  scanned (l ∷ ls) s q a =
      by_step (c.scan l)
      (λ e. absurd (not_both (after (over_lines c m) s (l ∷ ls)) q a (rw e)))
      (λ k e.
      by_step (m.step s k)
      (λ f. absurd (not_both (after (over_lines c m) s (l ∷ ls)) q a (rw (e, f))))
      (λ s' f. one_more_case k s' e f (scanned ls s' q (rw (e, f) at a))))
    where
      one_more_case : (k : K) (s' : S) → c.scan l ≡ next k → m.step s k ≡ next s' → Scanned ls s' q → Scanned (l ∷ ls) s q
      one_more_case k s' e f x = record {
        tokens = k ∷ x.tokens;
        are_lines = rw (x.are_lines, code.scanned l k e);
        fit = and_true (code.scanned_fits l k e) x.fit;
        taken = rw f x.taken;
      }

  written : (ks : List K) (s : S) → every c.fits ks ≡ true → after (over_lines c m) s (map c.write ks) ≡ after m s ks
  unfolding after
  written [] s f = refl
  written (k ∷ ks) s f =
      let t = every_cons c.fits k ks f in
      rw (code.written k t.0) (by_step (m.step s k) (λ e. rw e) (λ s' e. rw e (written ks s' t.1)))

  written_lines : (ks : List K) → every c.fits ks ≡ true → every is_line (map c.write ks) ≡ true
  written_lines [] f = refl
  written_lines (k ∷ ks) f = let t = every_cons c.fits k ks f in and_true (code.is_line_holds k t.0) (written_lines ks t.1)

pub by_tokens : ByTokens
by_tokens D W S K good tokens shows c m code r = record {
  takes = λ d g.
      let x : TakesTokens good tokens shows c.fits m d = r.takes d g in
      let ls = map c.write (tokens d) in
      let lines : every is_line ls ≡ true = written_lines c code m (tokens d) x.fit in
      record {
        ends = rest_joined ls lines;
        state = x.state;
        reaches = rw (lines_joined ls lines) (written c code m (tokens d) m.start x.fit ∙ x.reaches);
        is_final = x.is_final;
        is_built = x.is_built;
      };
  extends = λ ls s h a.
      let y : Scanned c code m ls m.start s = scanned c code m ls m.start s a in
      let x : ExtendsTokens good tokens shows c.fits m y.tokens = r.extends y.tokens s y.fit y.taken in
      record {
        made = x.made;
        is_good_holds = x.is_good_holds;
        rest = write_all c x.rest;
        goes = rw (x.goes, map-append, joined_append, y.are_lines);
      };
  closes = λ ls s h a f.
      let y : Scanned c code m ls m.start s = scanned c code m ls m.start s a in
      let x : ClosesTokens good tokens shows c.fits m y.tokens (m.built s) = r.closes y.tokens s y.fit y.taken f in
      record { made = x.made; is_good_holds = x.is_good_holds; is_page = rw (x.are_tokens, y.are_lines); is_shown = x.is_shown };
}

-- ---- a code by a guess

pub same_is : (xs ys : List ℕ) → same xs ys ≡ true → xs ≡ ys
unfolding same
same_is [] [] h = refl
same_is [] (y ∷ ys) h = absurd (false≢true h)
same_is (x ∷ xs) [] h = absurd (false≢true h)
same_is (x ∷ xs) (y ∷ ys) h = rw (eqb-true x y (and_l (eqb x y) (same xs ys) h), same_is xs ys (and_r (eqb x y) (same xs ys) h))

pub same_itself : (xs : List ℕ) → same xs xs ≡ true
unfolding same
same_itself [] = refl
same_itself (x ∷ xs) = and_true (eq-eqb x x refl) (same_itself xs)

module _ {K : Type 0} (write : K → Line) (fits : K → Bool) (guess : Line → K) where
  -- what was guessed right
  record Sure (l : Line) (k g : K) : Type 0 where
    is : g ≡ k
    fit : fits g ≡ true
    line : write g ≡ l

  sure_is : (l : Line) (k g : K) → sure write fits guess l g ≡ next k → Sure l k g
  sure_is l k g h =
      by-test (fits g && same (write g) l)
      (λ e.
      let q : next g ≡ next k = rw e at h in
      record { is = cc; fit = and_l (fits g) (same (write g) l) e; line = same_is (write g) l (and_r (fits g) (same (write g) l) e) })
      (λ e. absurd (not_both (sure write fits guess l g) k h (rw e)))

  pub guess_code : GuessIsCode write fits guess
  guess_code line guessed = record {
    is_line_holds = line;
    written = λ k f. rw (guessed k f, and_true f (same_itself (write k)));
    scanned = λ l k h. let x : Sure l k (guess l) = sure_is l k (guess l) h in sym x.line ∙ ap write x.is;
    scanned_fits = λ l k h. let x : Sure l k (guess l) = sure_is l k (guess l) h in sym (ap fits x.is) ∙ x.fit;
  }
