-- The law of lines: a machine that reads a language says what a good page shows, and of any other text it names the first line n for which no
-- good page begins with lines 1 to n of the text. Assumes nothing.
use Prim.Native.Nat.{ℕ, suc, ◌+◌, ◌≤◌, ◌<◌}
use mathlib.Core.Bool.{Bool, true, false, true≢false, ◌&&◌}
use mathlib.Core.List.{List, [], ◌∷◌, ◌++◌, append_assoc}
use mathlib.Core.Path.{◌≡◌, refl, sym, ap, subst, ◌∙◌}
use native.Mathlib.Omega.{arith}
use lib.ListN.{length, take, drop, take-append-drop}
use lib.Seq.{take-take, take_at, length-take-le}
use Rattle.digits.proofs.Tests.{by-test, by_less, and_true, and_l, and_r}
use Rattle.lines.specs.Lines.{Line, is_empty, lines_of, rest_of, joined, Begins, BeginsByLines}
use Rattle.lines.specs.Machine.{Machine, refused, next, follow, Verdict, gives, wrong, after, walk, verdict, line_in, first_refused}
use Rattle.lines.specs.Reads.{Extends, Closes, Takes, Reads}
use Rattle.lines.specs.Demands.{SomePage, SomeBegins, FirstLine, FirstLineIsOne, PageShows, ReadsPages}
use Rattle.lines.proofs.Tests.{empty_is, by_step, not_both}
use Rattle.lines.proofs.LineLaws.{lines_front, joined_append, text_is, first_lines, are_lines, all_lines}

-- ---- the state after letters

module _ {W S L : Type 0} (m : Machine W S L) where
  pub after_append : (s : S) (ks ls : List L) → after m s (ks ++ ls) ≡ follow (after m s ks) (λ s'. after m s' ls) refused
  unfolding after
  after_append s [] ls = refl
  after_append s (k ∷ ks) ls = by_step (m.step s k) (λ e. rw e) (λ s' e. rw e (after_append s' ks ls))

  pub after_two : (s s' : S) (ks ls : List L) → after m s ks ≡ next s' → after m s (ks ++ ls) ≡ after m s' ls
  after_two s s' ks ls h = rw (after_append s ks ls, h)

  -- if letters are taken, so are the first of them
  pub front_taken : (s q : S) (ks ls : List L) → after m s (ks ++ ls) ≡ next q → (s' : S) × (after m s ks ≡ next s')
  front_taken s q ks ls h =
      by_step (after m s ks)
      (λ e. absurd (not_both (after m s (ks ++ ls)) q h (rw (after_append s ks ls, e))))
      (λ s' e. (s', e))

-- ---- what a walk says: it ends, or it fails after j lines

module _ {W S : Type 0} (m : Machine W S Line) where
  record Fails (s : S) (ls : List Line) (rest : List ℕ) (j : ℕ) : Type 0 where
    within : j ≤ length ls
    state : S
    reaches : after m s (take j ls) ≡ next state
    no_more : (q : S) → j < length ls → after m s (take (suc j) ls) ≡ next q → ⊥
    no_end : (q : S) → after m s ls ≡ next q → is_empty rest && m.final q ≡ true → ⊥

  data Walked (s : S) (n : ℕ) (ls : List Line) (rest : List ℕ) : Type 0 where
    ended : (q : S) → walk m s n ls rest ≡ gives (m.built q) → after m s ls ≡ next q → is_empty rest && m.final q ≡ true
        → Walked s n ls rest
    failed : (j : ℕ) → walk m s n ls rest ≡ wrong (suc (n + j)) → Fails s ls rest j → Walked s n ls rest

  fails_short : (s : S) (rest : List ℕ) → is_empty rest && m.final s ≡ false → Fails s [] rest 0
  unfolding after
  fails_short s rest f = record {
    within = omega arith;
    state = s;
    reaches = refl;
    no_more = λ q h a. let z : ⊥ = omega arith in z;
    no_end = λ q a e. let k : s ≡ q = cc in true≢false (sym e ∙ rw (← k) f);
  }

  fails_here : (s : S) (l : Line) (ls : List Line) (rest : List ℕ) → m.step s l ≡ refused → Fails s (l ∷ ls) rest 0
  unfolding after
  fails_here s l ls rest e = record {
    within = omega arith;
    state = s;
    reaches = refl;
    no_more = λ q h a. not_both (after m s (l ∷ [])) q a (rw e);
    no_end = λ q a f. not_both (after m s (l ∷ ls)) q a (rw e);
  }

  fails_later : (s s' : S) (l : Line) (ls : List Line) (rest : List ℕ) (j : ℕ) → m.step s l ≡ next s' → Fails s' ls rest j
      → Fails s (l ∷ ls) rest (suc j)
  unfolding after
  fails_later s s' l ls rest j e f = record {
    within = omega (arith, f.within);
    state = f.state;
    reaches = rw e f.reaches;
    no_more = λ q h a. f.no_more q (omega arith) (rw e at a);
    no_end = λ q a g. f.no_end q (rw e at a) g;
  }

  walked : (s : S) (n : ℕ) (ls : List Line) (rest : List ℕ) → Walked s n ls rest
  unfolding walk after
  walked s n [] rest =
      by-test (is_empty rest && m.final s)
      (λ e. ended s (rw e) refl e)
      (λ e. failed 0 (rw e (ap wrong (omega arith))) (fails_short s rest e))
  walked s n (l ∷ ls) rest =
      by_step (m.step s l)
      (λ e. failed 0 (rw e (ap wrong (omega arith))) (fails_here s l ls rest e))
      (λ s' e. onward s' e (walked s' (suc n) ls rest))
    where
      onward : (s' : S) → m.step s l ≡ next s' → Walked s' (suc n) ls rest → Walked s n (l ∷ ls) rest
      onward s' e (ended q w a f) = ended q (rw e w) (rw e a) f
      onward s' e (failed j w f) = failed (suc j) (rw e (w ∙ ap wrong (omega arith))) (fails_later s s' l ls rest j e f)

-- ---- texts that begin with the first lines of another

begins_fewer : (n k : ℕ) (t u : List ℕ) → n ≤ k → Begins k t u → Begins n t u
begins_fewer n k t u h b =
    let ls = lines_of t in
    let more = drop n (take k ls) in
    let parts : take n ls ++ more ≡ take k ls = rw take-take at (take-append-drop n (take k ls)) in
    let texts : joined (take k ls) ≡ joined (take n ls) ++ joined more = rw (← joined_append (take n ls) more, parts) in
    record {
      has = omega (arith, b.has);
      rest = joined more ++ b.rest;
      goes = rw (b.goes, texts, append_assoc);
    }

-- the lines of a text that begins so
lines_begun : (n : ℕ) (t u : List ℕ) (b : Begins n t u) → lines_of u ≡ take n (lines_of t) ++ lines_of b.rest
lines_begun n t u b = ap lines_of b.goes ∙ lines_front (take n (lines_of t)) b.rest (first_lines n t)

pub begins_by_lines : BeginsByLines
begins_by_lines n t u = (there, back)
  where
    there : Begins n t u → (n ≤ length (lines_of t)) × (take n (lines_of u) ≡ take n (lines_of t))
    there b = (
      b.has,
      rw (lines_begun n t u b) (take_at (take n (lines_of t)) (lines_of b.rest) n (length-take-le n (lines_of t) b.has)),
    )

    back : (n ≤ length (lines_of t)) × (take n (lines_of u) ≡ take n (lines_of t)) → Begins n t u
    back (h, e) =
        let ls = lines_of u in
        let parts : joined (take n ls) ++ joined (drop n ls) ≡ joined ls = rw (← joined_append (take n ls) (drop n ls), take-append-drop n ls) in
        record {
          has = h;
          rest = joined (drop n ls) ++ rest_of u;
          goes = sym (text_is u) ∙ rw (← parts, e) (append_assoc (joined (take n (lines_of t))) (joined (drop n ls)) (rest_of u));
        }

module _ {D : Type 0} (good : D → Bool) (page : D → List ℕ) where
  pub first_line_is_one : FirstLineIsOne good page
  first_line_is_one t n k f g =
      by_less n k
      (λ h. absurd (f.none_here (g.some_before n h)))
      (λ h. by_less k n (λ l. absurd (g.none_here (f.some_before k l))) (λ l. omega arith))

-- ---- a machine that reads a language

module _ {D W S : Type 0} (good : D → Bool) (page : D → List ℕ) (shows : D → W) (m : Machine W S Line) (r : Reads good page shows m) where
  -- lines that the machine takes begin a good page
  begun : (t : List ℕ) (j : ℕ) (s : S) → j ≤ length (lines_of t) → after m m.start (take j (lines_of t)) ≡ next s → SomeBegins good page j t
  begun t j s h a =
      let x : Extends good page (take j (lines_of t)) = r.extends (take j (lines_of t)) s (first_lines j t) a in
      (x.made, x.is_good_holds, record { has = h; rest = x.rest; goes = x.goes })

  -- lines that begin a good page are taken
  taken : (t : List ℕ) (n : ℕ) → SomeBegins good page n t → (s : S) × (after m m.start (take n (lines_of t)) ≡ next s)
  taken t n (d, g, b) =
      let x : Takes good page shows m d = r.takes d g in
      front_taken m m.start x.state (take n (lines_of t)) (lines_of b.rest) (rw (lines_begun n t (page d) b) at x.reaches)

  fewer : (t : List ℕ) (n k : ℕ) → n ≤ k → SomeBegins good page k t → SomeBegins good page n t
  fewer t n k h (d, g, b) = (d, g, begins_fewer n k t (page d) h b)

  one_each : (d e : D) → good d ≡ true → good e ≡ true → page d ≡ page e → shows d ≡ shows e
  one_each d e g h p =
      let x : Takes good page shows m d = r.takes d g in
      let y : Takes good page shows m e = r.takes e h in
      cc

  -- what the verdict says of the text
  data Said (t : List ℕ) : Type 0 where
    is_page : (v : W) → verdict m t ≡ gives v → PageShows good page shows t v → Said t
    is_none : (n : ℕ) → verdict m t ≡ wrong n → (SomePage good page t → ⊥) → FirstLine good page t n → Said t

  no_page : (t : List ℕ) (j : ℕ) → Fails m m.start (lines_of t) (rest_of t) j → SomePage good page t → ⊥
  no_page t j f (d, g, e) =
      let x : Takes good page shows m d = r.takes d g in
      let none : is_empty (rest_of t) ≡ true = rw (← e, x.ends) in
      f.no_end x.state (rw e at x.reaches) (and_true none x.is_final)

  first : (t : List ℕ) (j : ℕ) → Fails m m.start (lines_of t) (rest_of t) j → FirstLine good page t (suc j)
  first t j f = record {
    from_one = omega arith;
    none_here = λ b. let x = taken t (suc j) b in f.no_more x.0 b.2.has x.1;
    some_before = λ k h. fewer t k j (omega arith) (begun t j f.state f.within f.reaches);
  }

  said_of : (t : List ℕ) → Walked m m.start 0 (lines_of t) (rest_of t) → Said t
  unfolding verdict
  said_of t (ended q w a f) =
      let final = and_r (is_empty (rest_of t)) (m.final q) f in
      let none = empty_is (rest_of t) (and_l (is_empty (rest_of t)) (m.final q) f) in
      let x : Closes good page shows (lines_of t) (m.built q) = r.closes (lines_of t) q (are_lines t) a final in
      is_page (m.built q) w (x.made, x.is_good_holds, x.is_page ∙ all_lines t none, x.is_shown)
  said_of t (failed j w f) = is_none (suc j) (w ∙ ap wrong (omega arith)) (no_page t j f) (first t j f)

  said : (t : List ℕ) → Said t
  said t = said_of t (walked m m.start 0 (lines_of t) (rest_of t))

  differ : (o : Verdict W) (v : W) (n : ℕ) → o ≡ gives v → o ≡ wrong n → ⊥
  differ o v n p q = let z : ◌≡◌ {A = ℕ} 0 1 = cc in omega arith

  -- ---- each demand, by what was said

  page_said : (t : List ℕ) (v : W) → Said t → verdict m t ≡ gives v → PageShows good page shows t v
  page_said t v (is_page u w p) h = let e : u ≡ v = cc in rw (← e) p
  page_said t v (is_none n w p f) h = absurd (differ (verdict m t) v n h w)

  says_page : (t : List ℕ) (v : W) → Said t → PageShows good page shows t v → verdict m t ≡ gives v
  says_page t v (is_page u w (d, g, p, q)) (e, h, o, x) = w ∙ ap gives (sym q ∙ one_each d e g h (p ∙ sym o) ∙ x)
  says_page t v (is_none n w p f) (e, h, o, x) = absurd (p (e, h, o))

  line_said : (t : List ℕ) (n : ℕ) → Said t → verdict m t ≡ wrong n → (SomePage good page t → ⊥) × FirstLine good page t n
  line_said t n (is_page v w p) h = absurd (differ (verdict m t) v n w h)
  line_said t n (is_none k w p f) h = let e : k ≡ n = cc in (p, subst (FirstLine good page t) e f)

  says_line : (t : List ℕ) (n : ℕ) → Said t → (SomePage good page t → ⊥) × FirstLine good page t n → verdict m t ≡ wrong n
  says_line t n (is_page v w (d, g, p, q)) (none, f) = absurd (none (d, g, p))
  says_line t n (is_none k w p g) (none, f) = w ∙ ap wrong (first_line_is_one good page t k n g f)

  zero_said : (t : List ℕ) → Said t → first_refused m t ≡ 0 → SomePage good page t
  zero_said t (is_page v w (d, g, p, q)) h = (d, g, p)
  zero_said t (is_none n w p f) h = let z : n ≡ 0 = sym (ap line_in w) ∙ h in absurd (omega (arith, f.from_one))

  says_zero : (t : List ℕ) → SomePage good page t → first_refused m t ≡ 0
  says_zero t (d, g, p) = ap line_in (says_page t (shows d) (said t) (d, g, p, refl))

  pub reads_pages : ReadsPages good page shows m
  reads_pages = record {
    page_read = λ t v. (page_said t v (said t), says_page t v (said t));
    line_named = λ t n. (line_said t n (said t), says_line t n (said t));
    refuses_none = λ t. (zero_said t (said t), says_zero t);
    none_later = λ t n k f h b. f.none_here (fewer t n k h b);
    one_each = one_each;
  }
