-- The machine reads the pages of all desks that the version can show. Assumes nothing.
use Rattle.std.proofs.Common.{◌≡◌, ℕ, ◌+◌, ◌-◌, ◌%◌, ◌^◌, ◌<◌, ◌≤◌, Bool, true, false, cond, ◌&&◌, eqb, ltb, leb, List, [], ◌∷◌, ◌++◌, sym, refl, ◌∙◌, subst, ap₂, append-nil, arith, ltb-true, eqb-true, le-leb, leb-true}
use mathlib.Core.Bool.{false≢true}
use Rattle.digits.proofs.Tests.{by-test, and_l, and_r}
use Rattle.lines.specs.Lines.{every}
use Rattle.lines.specs.Machine.{Step, refused, next, after}
use Rattle.lines.specs.Reads.{Reads}
use Rattle.lines.specs.Demands.{ReadsPages}
use Rattle.lines.specs.Filter.{passing, GoesBack, OnlyLastCounts}
use Rattle.lines.specs.Tokens.{ExtendsTokens, ClosesTokens, TakesTokens, ReadsTokens}
use Rattle.lines.proofs.Tests.{not_both}
use Rattle.lines.proofs.FilterLaws.{only_last_counts}
use Rattle.lines.proofs.TokenLaws.{along, by_tokens}
use Rattle.lines.proofs.ReadLaws.{reads_pages}
use Rattle.desk.specs.Hearing.{heard, status_in, ends}
use Rattle.desk.specs.Memory.{Memory}
use Rattle.desk.specs.Desk.{is_desk}
use Rattle.desk.specs.Calls.{empty_row, emptied}
use Rattle.desk.proofs.ReplayLaws.{Facts, desk_facts}
use Rattle.page.specs.Version.{Version, Sound, showable}
use Rattle.page.specs.Sum.{sum_of, sum_modulus}
use Rattle.page.specs.Page.{page}
use Rattle.page.specs.inside.Tokens.{Token, first, seat, cell, last, write, fits, code, tokens}
use Rattle.page.specs.inside.Machine.{Body, Reached, heading, body, over, Shown, shows, framed, seat_taken, with_seat, heard_taken, with_cell, only, roomy, viable, final, shown_of, built as built_of, builder, token_machine, machine}
use Rattle.page.proofs.CodeLaws.{is_code}
use Rattle.page.proofs.TokenLaws.{page_tokens}
use Rattle.page.proofs.BuildLaws.{waiting_at, sofar, Built, built, lent, first_shows, first_sofar, seat_shows, seat_sofar, cell_shows, cell_sofar, GoesOn, goes_on, shown_whole}
use Rattle.page.proofs.RunLaws.{ran}

pub only_next : (t : Bool) (x y : Reached) → only t x ≡ next y → (t ≡ true) × (x ≡ y)
only_next true x y h = (refl, cc)
only_next false x y h = absurd (not_both (only false x) y h refl)

pub next_is : (x y : Reached) → next x ≡ next y → x ≡ y
next_is x y h = cc

module _ (v : Version) (sound : Sound v) where
  -- ---- each line takes room, or leaves it as it is

  enough : (s q : Body) → s.count + s.waiting ≤ q.count + q.waiting → roomy v q ≡ true → roomy v s ≡ true
  unfolding roomy
  enough s q l h = let k = leb-true (q.count + q.waiting) v.cells h in le-leb (s.count + s.waiting) v.cells (omega arith)

  less_one : (t : Bool) (a w : ℕ) → a + w ≤ a + 1 + (w - cond t 1 0)
  less_one true a w = omega arith
  less_one false a w = omega arith

  goes_back : GoesBack (viable v) (builder v)
  goes_back heading q k e h = refl
  goes_back (body s) q first e h = absurd (not_both refused q e refl)
  goes_back (body s) q (seat i k n) e h =
      let x = only_next (seat_taken s i k) (body (with_seat s i k n (sum_of (write v (seat i k n))))) q e in
      enough s (with_seat s i k n (sum_of (write v (seat i k n)))) (omega arith) (subst (λ (p : Reached). viable v p ≡ true) (sym x.1) h)
  goes_back (body s) q (cell i bytes) e h =
      let after-it = with_cell s i (status_in (heard (framed bytes))) (sum_of (write v (cell i bytes))) in
      let x = only_next (heard_taken s i (heard (framed bytes))) (body after-it) q e in
      enough s after-it (less_one (ends (status_in (heard (framed bytes)))) s.count s.waiting) (subst (λ (p : Reached). viable v p ≡ true) (sym x.1) h)
  goes_back (body s) q (last n t) e h =
      let x = only_next (eqb n s.count && eqb t (s.sum % sum_modulus) && eqb s.waiting 0) (over s) q e in
      subst (λ (p : Reached). viable v p ≡ true) (sym x.1) h
  goes_back (over s) q k e h = absurd (not_both refused q e refl)

  counts : OnlyLastCounts (viable v) (builder v)
  counts = only_last_counts (viable v) (builder v) goes_back

  -- ---- what a state says of the lines read

  record Closed (ks : List Token) (s : Body) : Type 0 where
    before : List Token
    is : Built v sound before s
    done : s.waiting ≡ 0
    all : ks ≡ before ++ (last s.count (s.sum % sum_modulus) ∷ [])

  abbrev Holds : List Token → Reached → Type 0
  Holds ks heading = ks ≡ []
  Holds ks (body s) = Built v sound ks s
  Holds ks (over s) = Closed ks s

  abbrev pub at_first : Body
  at_first = record { row = empty_row; bits = 0; count = 0; said = 0; waiting = 0; sum = sum_of (write v first) }

  first_kept : Built v sound (first ∷ []) at_first
  first_kept = subst (Built v sound (first ∷ [])) (first_sofar v sound) (built (emptied (lent v sound)) 0 (first_shows v sound))

  pub first_room : roomy v at_first ≡ true
  unfolding roomy
  first_room = le-leb (0 + 0) v.cells (omega arith)

  seat_kept : (ks : List Token) {s : Body} (i : ℕ) → Built v sound ks s → (k : _) (n : ℕ) → fits v (seat i k n) ≡ true → seat_taken s i k ≡ true → Built v sound (ks ++ (seat i k n ∷ [])) (with_seat s i k n (sum_of (write v (seat i k n))))
  seat_kept ks i (built d said b) k n f t =
      subst (Built v sound (ks ++ (seat i k n ∷ []))) (seat_sofar v sound ks d said b i k n f t) (built _ _ (seat_shows v sound ks d said b i k n f t))

  cell_kept : (ks : List Token) {s : Body} (i : ℕ) → Built v sound ks s → (bytes : List ℕ) → fits v (cell i bytes) ≡ true → heard_taken s i (heard (framed bytes)) ≡ true → s.count < v.cells
      → Built v sound (ks ++ (cell i bytes ∷ [])) (with_cell s i (status_in (heard (framed bytes))) (sum_of (write v (cell i bytes))))
  cell_kept ks i (built d said b) bytes f t room =
      subst (Built v sound (ks ++ (cell i bytes ∷ []))) (cell_sofar v sound ks d said b i bytes f t room) (built _ _ (cell_shows v sound ks d said b i bytes f t room))

  room_of : (s t : Body) → t.count ≡ s.count + 1 → roomy v t ≡ true → s.count < v.cells
  unfolding roomy
  room_of s t c h = let k = leb-true (t.count + t.waiting) v.cells h in omega arith

  pub passed : (o : Step Reached) (q : Reached) → passing (viable v) (builder v) o ≡ next q → (o ≡ next q) × (viable v q ≡ true)
  passed refused q h = absurd (not_both refused q h refl)
  passed (next p) q h =
      by-test (viable v p)
      (λ t. let e : next p ≡ next q = rw t at h in (e, rw (← next_is p q e) t))
      (λ t. let e : refused ≡ next q = rw t at h in absurd (not_both refused q e refl))

  kept : (ks : List Token) (k : Token) (s q : Reached) → fits v k ≡ true → Holds ks s → (token_machine v).step s k ≡ next q → Holds (ks ++ (k ∷ [])) q
  kept ks first heading q f h e =
      let x = passed ((builder v).step heading first) q e in
      let now : Built v sound (ks ++ (first ∷ [])) at_first = subst (λ (l : List Token). Built v sound (l ++ (first ∷ [])) at_first) (sym h) first_kept in
      subst (Holds (ks ++ (first ∷ []))) (next_is (body at_first) q x.0) now
  kept ks (seat i k n) heading q f h e = absurd (not_both refused q (passed refused q e).0 refl)
  kept ks (cell i bytes) heading q f h e = absurd (not_both refused q (passed refused q e).0 refl)
  kept ks (last n t) heading q f h e = absurd (not_both refused q (passed refused q e).0 refl)
  kept ks first (body s) q f h e = absurd (not_both refused q (passed refused q e).0 refl)
  kept ks (seat i k n) (body s) q f h e =
      let p = passed ((builder v).step (body s) (seat i k n)) q e in
      let x = only_next (seat_taken s i k) (body (with_seat s i k n (sum_of (write v (seat i k n))))) q p.0 in
      subst (Holds (ks ++ (seat i k n ∷ []))) x.1 (seat_kept ks i h k n f x.0)
  kept ks (cell i bytes) (body s) q f h e =
      let p = passed ((builder v).step (body s) (cell i bytes)) q e in
      let after-it = with_cell s i (status_in (heard (framed bytes))) (sum_of (write v (cell i bytes))) in
      let x = only_next (heard_taken s i (heard (framed bytes))) (body after-it) q p.0 in
      let fine : viable v (body after-it) ≡ true = subst (λ (y : Reached). viable v y ≡ true) (sym x.1) p.1 in
      subst (Holds (ks ++ (cell i bytes ∷ []))) x.1 (cell_kept ks i h bytes f x.0 (room_of s after-it refl fine))
  kept ks (last n t) (body s) q f h e =
      let p = passed ((builder v).step (body s) (last n t)) q e in
      let a = eqb n s.count in
      let c = eqb t (s.sum % sum_modulus) in
      let x = only_next (a && c && eqb s.waiting 0) (over s) q p.0 in
      let ac = and_l (a && c) (eqb s.waiting 0) x.0 in
      let now : Closed (ks ++ (last n t ∷ [])) s = record {
        before = ks;
        is = h;
        done = eqb-true _ _ (and_r (a && c) (eqb s.waiting 0) x.0);
        all = ap₂ (λ (y z : ℕ). ks ++ (last y z ∷ [])) (eqb-true _ _ (and_l a c ac)) (eqb-true _ _ (and_r a c ac));
      } in
      subst (Holds (ks ++ (last n t ∷ []))) x.1 now
  kept ks k (over s) q f h e = absurd (not_both refused q (passed refused q e).0 refl)

  holds : (ks : List Token) (s : Reached) → every (fits v) ks ≡ true → after (token_machine v) heading ks ≡ next s → Holds ks s × (viable v s ≡ true)
  holds ks s f a = (along (token_machine v) (fits v) Holds kept refl ks s f a, (counts.taken heading s ks refl a).1)

  -- ---- the lines that were taken begin a page, and where the machine may end they are one

  room_in_law : (ks : List Token) (d : Memory) (said : ℕ) → roomy v (sofar v sound ks d said) ≡ true → d.count + waiting_at v sound d said ≤ v.cells
  unfolding roomy
  room_in_law ks d said h = leb-true _ _ h

  goes_from : (ks : List Token) {s : Body} → Built v sound ks s → roomy v s ≡ true → GoesOn v sound ks
  goes_from ks (built d said b) h = goes_on v sound ks d said b (room_in_law ks d said h)

  record Page (ks : List Token) (s : Body) : Type 0 where
    desk : Memory
    good : showable v desk ≡ true
    are : tokens v desk ≡ ks
    shown : shows desk ≡ shown_of v s

  page_of : (before ks : List Token) {s : Body} → Built v sound before s → s.waiting ≡ 0 → roomy v s ≡ true → ks ≡ before ++ (last s.count (s.sum % sum_modulus) ∷ []) → Page ks s
  page_of before ks (built d said b) z h e =
      let r = room_in_law before d said h in
      let w = shown_whole v sound before d said b z (omega arith) in
      record { desk = d; good = w.0; are = w.1 ∙ sym e; shown = refl }

  closed_page : (ks : List Token) (s : Body) → Closed ks s → roomy v s ≡ true → Page ks s
  closed_page ks s c h = page_of c.before ks c.is c.done h c.all

  extends : (ks : List Token) (s : Reached) → Holds ks s → viable v s ≡ true → ExtendsTokens (showable v) (tokens v) shows (fits v) (token_machine v) ks
  extends ks heading h t =
      let g = goes_from (first ∷ []) first_kept first_room in
      record { made = g.made; is_good_holds = g.good; rest = tokens v g.made; goes = rw h }
  extends ks (body s) h t = let g = goes_from ks h t in record { made = g.made; is_good_holds = g.good; rest = g.rest; goes = g.goes }
  extends ks (over s) h t = let p = closed_page ks s h t in record { made = p.desk; is_good_holds = p.good; rest = []; goes = p.are ∙ sym (append-nil ks) }

  closes : (ks : List Token) (s : Reached) → Holds ks s → viable v s ≡ true → final v s ≡ true → ClosesTokens (showable v) (tokens v) shows (fits v) (token_machine v) ks (built_of v s)
  closes ks heading h t e = absurd (false≢true e)
  closes ks (body s) h t e = absurd (false≢true e)
  closes ks (over s) h t e = let p = closed_page ks s h t in record { made = p.desk; is_good_holds = p.good; are_tokens = p.are; is_shown = p.shown }

  -- ---- every page is taken

  pub record Showable (d : Memory) : Type 0 where
    pub facts : Facts d
    pub bits : d.bits < 2 ^ v.seats
    pub count : d.count ≤ v.cells

  pub showable_is : (d : Memory) → showable v d ≡ true → Showable d
  unfolding showable
  showable_is d g =
      let a = is_desk d in
      let b = ltb d.bits (2 ^ v.seats) in
      let c = leb d.count v.cells in
      let ab = and_l (a && b) c g in
      record { facts = desk_facts d (and_l a b ab); bits = ltb-true _ _ (and_r a b ab); count = leb-true _ _ (and_r (a && b) c g) }

  takes : (d : Memory) → showable v d ≡ true → TakesTokens (showable v) (tokens v) shows (fits v) (token_machine v) d
  unfolding roomy
  takes d g =
      let s = showable_is d g in
      let r = ran v sound d s.facts s.bits s.count in
      let q = r.state in
      record {
        fit = r.fit;
        state = over q;
        reaches = counts.takes heading (over q) (tokens v d) r.reaches (le-leb (q.count + q.waiting) v.cells r.roomy);
        is_final = refl;
        is_built = λ i. record { row = r.row i; bits = r.bits i; count = r.count i };
      }

  reads_tokens : ReadsTokens (showable v) (tokens v) shows (fits v) (token_machine v)
  reads_tokens = record {
    takes = takes;
    extends = λ ks s f a. let h = holds ks s f a in extends ks s h.0 h.1;
    closes = λ ks s f a e. let h = holds ks s f a in closes ks s h.0 h.1 e;
  }

  pub reads : Reads (showable v) (page v) shows (machine v)
  reads =
      subst (λ (p : Memory → List ℕ). Reads (showable v) p shows (machine v)) (λ i d. page_tokens v d i)
      (by_tokens Memory Shown Reached Token (showable v) (tokens v) shows (code v) (token_machine v) (is_code v sound) reads_tokens)

  pub machine_reads : ReadsPages (showable v) (page v) shows (machine v)
  machine_reads = reads_pages (showable v) (page v) shows (machine v) reads
