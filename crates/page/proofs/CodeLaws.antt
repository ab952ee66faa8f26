-- The tokens of a page and their lines: a token that fits is written as a line, and guessed from it. Assumes nothing.
use Rattle.std.proofs.Common.{Some, ◌≡◌, ℕ, zero, suc, ◌+◌, ◌/◌, ◌%◌, ◌<◌, ◌≤◌, Bool, true, false, not, ◌&&◌, eqb, ltb, leb, List, [], ◌∷◌, ◌++◌, length, get_or, take, sym, refl, ap, ◌∙◌, append_assoc, arith, length-append, take_at, get_or-append-add, ltb-true, eq-eqb, ne_eqb, eqb-true, leb-true}
use lib.Seq.{take-append-add, drop-append-add, slice}
use borrow.Author.Tests.{not-true}
use Rattle.digits.specs.Digits.{digits, number_at}
use Rattle.digits.proofs.Tests.{by-test, and_true, and_l, and_r}
use Rattle.digits.proofs.Writing.{length_digits}
use Rattle.digits.proofs.Forms.{number_lawful, number_back}
use Rattle.text.specs.Lines.{TAB, LF}
use Rattle.text.specs.Address.{blank, minus, address_shown, shown_address}
use Rattle.frames.specs.Rules.{between, is_address, is_requester}
use Rattle.lines.specs.Lines.{every, is_line}
use Rattle.lines.specs.Tokens.{IsCode}
use Rattle.lines.proofs.Tests.{every_cons, every_append}
use Rattle.lines.proofs.TokenLaws.{guess_code}
use Rattle.desk.specs.declared.key.Key.{Key}
use Rattle.desk.specs.Key.{is_key}
use Rattle.page.specs.Version.{Version, Sound, within}
use Rattle.page.specs.Page.{first_line, seat_line, cell_line, last_line}
use Rattle.page.specs.inside.Tokens.{Token, first, seat, cell, last, middle_size, value_of, write, fits, seat_size, cell_size, last_size, guess_seat, guess_cell, guess_last, guess, code}

-- ---- lines

-- bytes within a line, in front of more
pub line_in_law : (xs l : List ℕ) → every within xs ≡ true → is_line (xs ++ l) ≡ is_line l
unfolding is_line
line_in_law [] l h = refl
line_in_law (x ∷ xs) l h =
    let c = every_cons within x xs h in
    rw (not-true (eqb x LF) c.0) (line_in_law xs l c.1)

pub digits_within : (w n : ℕ) → every within (digits w n) ≡ true
unfolding digits
digits_within zero n = refl
digits_within (suc w) n =
    every_append within (digits w (n / 10)) _ (digits_within w (n / 10)) (and_true (ap not (ne_eqb (48 + n % 10) LF (λ e. omega arith))) refl)

-- ---- a legal key

record Legal (k : Key) : Type 0 where
  address : is_address k.address ≡ true
  requester : is_requester k.requester ≡ true
  number : k.number ≤ 999

legal : (k : Key) → is_key k ≡ true → Legal k
unfolding is_key
legal k h =
    let a = is_address k.address in
    let q = is_requester k.requester in
    let n = leb k.number 999 in
    let aq = and_l (a && q) n h in
    record { address = and_l a q aq; requester = and_r a q aq; number = leb-true _ _ (and_r (a && q) n h) }

requester_within : (b : ℕ) → is_requester b ≡ true → within b ≡ true
unfolding is_requester between
requester_within b h = ap not (ne_eqb b LF (λ e. let z : ◌≡◌ {A = Bool} false true = rw e at h in absurd (let y : ◌≡◌ {A = ℕ} 0 1 = cc in omega arith)))

address_within : (b : ℕ) → is_address b ≡ true → within (address_shown b) ≡ true
unfolding is_address between address_shown
address_within b h =
    by-test (eqb b blank)
    (λ e. rw e)
    (λ e. rw e (ap not (ne_eqb b LF (λ q. let z : ◌≡◌ {A = Bool} false true = rw q at h in absurd (let y : ◌≡◌ {A = ℕ} 0 1 = cc in omega arith)))))

address_back : (b : ℕ) → is_address b ≡ true → shown_address (address_shown b) ≡ b
unfolding is_address between address_shown shown_address
address_back b h =
    by-test (eqb b blank)
    (λ e. rw e (sym (eqb-true b blank e)))
    (λ e. rw (e, ne_eqb b minus (λ q. let z : ◌≡◌ {A = Bool} false true = rw q at h in absurd (let y : ◌≡◌ {A = ℕ} 0 1 = cc in omega arith))))

module _ (v : Version) (sound : Sound v) where
  abbrev w : ℕ
  w = v.seat.width

  long : (i : ℕ) → length (v.seat.put i) ≡ w
  long i = sound.inverse.lawful.long i

  -- ---- each token is written as a line

  seat_line_case : (i : ℕ) (k : Key) (e : ℕ) → fits v (seat i k e) ≡ true → is_line (seat_line v i k e) ≡ true
  unfolding fits seat_line is_line
  seat_line_case i k e f =
      let g = and_l (ltb i v.seats && is_key k) (leb e 1) f in
      let p = and_l (ltb i v.seats) (is_key k) g in
      let l = legal k (and_r (ltb i v.seats) (is_key k) g) in
      line_in_law (v.seat.put i) _ (sound.inside i p)
      ∙ rw (not-true (eqb (address_shown k.address) LF) (address_within k.address l.address), not-true (eqb k.requester LF) (requester_within k.requester l.requester))
      (line_in_law (digits 3 k.number) (TAB ∷ (48 + e) ∷ LF ∷ []) (digits_within 3 k.number) ∙ rw (ne_eqb (48 + e) LF (λ q. omega arith)))

  cell_line_case : (i : ℕ) (bytes : List ℕ) → fits v (cell i bytes) ≡ true → is_line (cell_line v i bytes) ≡ true
  unfolding fits cell_line is_line
  cell_line_case i bytes f =
      let a = ltb i v.seats in
      let b = eqb (length bytes) middle_size in
      line_in_law (v.seat.put i) _ (sound.inside i (and_l a b (and_l (a && b) (every within bytes) f)))
      ∙ line_in_law bytes (LF ∷ []) (and_r (a && b) (every within bytes) f)

  last_line_case : (n s : ℕ) → is_line (last_line n s) ≡ true
  unfolding last_line is_line
  last_line_case n s = line_in_law (digits 4 n) _ (digits_within 4 n) ∙ line_in_law (digits 5 s) (LF ∷ []) (digits_within 5 s)

  first_line_case : is_line (first_line v) ≡ true
  unfolding first_line is_line
  first_line_case = rw (not-true (eqb v.name LF) sound.named)

  is_line_holds : (k : Token) → fits v k ≡ true → is_line (write v k) ≡ true
  is_line_holds first f = first_line_case
  is_line_holds (seat i k e) f = seat_line_case i k e f
  is_line_holds (cell i bytes) f = cell_line_case i bytes f
  is_line_holds (last n s) f = last_line_case n s

  -- ---- how long the lines are

  pub seat_long : (i : ℕ) (k : Key) (e : ℕ) → length (seat_line v i k e) ≡ seat_size v
  unfolding seat_line
  seat_long i k e = length-append (v.seat.put i) _ ∙ omega (arith, long i, length-append (digits 3 k.number) (TAB ∷ (48 + e) ∷ LF ∷ []), length_digits 3 k.number)

  pub cell_long : (i : ℕ) (bytes : List ℕ) → length bytes ≡ middle_size → length (cell_line v i bytes) ≡ cell_size v
  unfolding cell_line
  cell_long i bytes h = length-append (v.seat.put i) _ ∙ omega (arith, long i, length-append bytes (LF ∷ []), h)

  pub last_long : (n s : ℕ) → length (last_line n s) ≡ last_size v
  unfolding last_line
  last_long n s = length-append (digits 4 n) _ ∙ omega (arith, length_digits 4 n, length-append (digits 5 s) (LF ∷ []), length_digits 5 s)

  pub first_long : length (first_line v) ≡ 7
  unfolding first_line
  first_long = refl

  -- ---- each token is guessed from its line

  seat_there : (i : ℕ) (rest : List ℕ) → ltb i v.seats ≡ true → value_of (v.seat.got (v.seat.put i ++ rest) 0) ≡ i
  seat_there i rest h = ap value_of (sound.inverse.lawful.local [] (v.seat.put i) rest (long i) ∙ sound.inverse.back i h)

  past_seat : (i n : ℕ) (rest : List ℕ) → get_or (v.seat.put i ++ rest) (w + n) 0 ≡ get_or rest n 0
  past_seat i n rest = ap (λ (k : ℕ). get_or (v.seat.put i ++ rest) (k + n) 0) (sym (long i)) ∙ get_or-append-add (v.seat.put i) rest n 0

  number_in : (m n : ℕ) (pre post : List ℕ) → 1 ≤ m → m ≤ 10 → (p : ℕ) → length pre ≡ p → number_at (digits m n) 0 m ≡ Some n → value_of (number_at (pre ++ (digits m n ++ post)) p m) ≡ n
  number_in m n pre post a b p h e =
      ap value_of (ap (λ (q : ℕ). number_at (pre ++ (digits m n ++ post)) q m) (sym h)
      ∙ ap (λ (s : List ℕ). number_at s (length pre) m) (sym (append_assoc pre (digits m n) post))
      ∙ (number_lawful m a b).local pre (digits m n) post (length_digits m n)
      ∙ e)

  by_length : (l : List ℕ) → length l ≡ seat_size v → guess v l ≡ guess_seat v l
  unfolding guess
  by_length l h = rw (h, ne_eqb (seat_size v) (cell_size v) (λ e. omega arith), eq-eqb (seat_size v) (seat_size v) refl)

  seat_parts : (i : ℕ) (k : Key) (e : ℕ) → ltb i v.seats ≡ true → Legal k → guess_seat v (seat_line v i k e) ≡ seat i k e
  unfolding seat_line guess_seat
  seat_parts i k e p l =
      let end = TAB ∷ (48 + e) ∷ LF ∷ [] in
      let d = digits 3 k.number in
      let front = TAB ∷ address_shown k.address ∷ TAB ∷ k.requester ∷ TAB ∷ [] in
      let rest = TAB ∷ address_shown k.address ∷ TAB ∷ k.requester ∷ TAB ∷ (d ++ end) in
      let put = v.seat.put i in
      let there : value_of (number_at (put ++ rest) (w + 5) 3) ≡ k.number =
      ap (λ (s : List ℕ). value_of (number_at s (w + 5) 3)) (sym (append_assoc put front (d ++ end)))
      ∙ number_in 3 k.number (put ++ front) end (omega arith) (omega arith) (w + 5) (length-append put front ∙ omega (arith, long i)) (number_back 3 k.number (omega arith) (omega arith) (omega (arith, l.number))) in
      let said : get_or rest 9 0 ≡ 48 + e = ap (λ (n : ℕ). get_or (d ++ end) n 0) (omega (arith, length_digits 3 k.number)) ∙ get_or-append-add d end 1 0 in
      rw (seat_there i rest p, past_seat i 1 rest, past_seat i 3 rest, there, past_seat i 9 rest, said, address_back k.address l.address) (ap (seat i k) (omega arith))

  seat_told : (i : ℕ) (k : Key) (e : ℕ) → fits v (seat i k e) ≡ true → guess v (seat_line v i k e) ≡ seat i k e
  unfolding fits guess_seat
  seat_told i k e f =
      let g = and_l (ltb i v.seats && is_key k) (leb e 1) f in
      let p = and_l (ltb i v.seats) (is_key k) g in
      let l = legal k (and_r (ltb i v.seats) (is_key k) g) in
      by_length (seat_line v i k e) (seat_long i k e) ∙ seat_parts i k e p l

  cell_parts : (i : ℕ) (bytes : List ℕ) → length bytes ≡ middle_size → ltb i v.seats ≡ true → guess_cell v (cell_line v i bytes) ≡ cell i bytes
  unfolding cell_line guess_cell
  cell_parts i bytes n p =
      let put = v.seat.put i in
      let rest = TAB ∷ (bytes ++ (LF ∷ [])) in
      let cut : slice (w + 1) (w + 50) (put ++ rest) ≡ bytes =
      ap (λ (k : ℕ). slice (k + 1) (k + 50) (put ++ rest)) (sym (long i))
      ∙ rw (take-append-add put rest 50, drop-append-add put (take 50 rest) 1) (take_at bytes (LF ∷ []) 49 n) in
      rw (seat_there i rest p, cut)

  cell_told : (i : ℕ) (bytes : List ℕ) → fits v (cell i bytes) ≡ true → guess v (cell_line v i bytes) ≡ cell i bytes
  unfolding fits guess guess_cell
  cell_told i bytes f =
      let a = ltb i v.seats in
      let b = eqb (length bytes) middle_size in
      let ab = and_l (a && b) (every within bytes) f in
      let n = eqb-true (length bytes) middle_size (and_r a b ab) in
      rw (cell_long i bytes n, eq-eqb (cell_size v) (cell_size v) refl) (cell_parts i bytes n (and_l a b ab))

  last_parts : (n s : ℕ) → n < 10000 → s < 100000 → guess_last v (last_line n s) ≡ last n s
  unfolding last_line guess_last
  last_parts n s h k =
      let end = LF ∷ [] in
      let a : value_of (number_at (digits 4 n ++ (TAB ∷ (digits 5 s ++ end))) 0 4) ≡ n =
      number_in 4 n [] (TAB ∷ (digits 5 s ++ end)) (omega arith) (omega arith) 0 refl (number_back 4 n (omega arith) (omega arith) (omega arith)) in
      let b : value_of (number_at (digits 4 n ++ (TAB ∷ (digits 5 s ++ end))) 5 5) ≡ s =
      ap (λ (t : List ℕ). value_of (number_at t 5 5)) (sym (append_assoc (digits 4 n) (TAB ∷ []) (digits 5 s ++ end)))
      ∙ number_in 5 s (digits 4 n ++ (TAB ∷ [])) end (omega arith) (omega arith) 5 (length-append (digits 4 n) (TAB ∷ []) ∙ omega (arith, length_digits 4 n)) (number_back 5 s (omega arith) (omega arith) (omega arith)) in
      rw (a, b)

  last_told : (n s : ℕ) → fits v (last n s) ≡ true → guess v (last_line n s) ≡ last n s
  unfolding fits guess guess_last
  last_told n s f =
      let small = ltb-true n 10000 (and_l (ltb n 10000) (ltb s 100000) f) in
      let less = ltb-true s 100000 (and_r (ltb n 10000) (ltb s 100000) f) in
      let a = sound.some in
      rw (last_long n s, ne_eqb (last_size v) (cell_size v) (λ e. omega arith), ne_eqb (last_size v) (seat_size v) (λ e. omega arith)) (last_parts n s small less)

  first_told : guess v (first_line v) ≡ first
  unfolding guess
  first_told = let a = sound.some in rw (first_long, ne_eqb 7 (cell_size v) (λ e. omega arith), ne_eqb 7 (seat_size v) (λ e. omega arith))

  told : (k : Token) → fits v k ≡ true → guess v (write v k) ≡ k
  told first f = first_told
  told (seat i k e) f = seat_told i k e f
  told (cell i bytes) f = cell_told i bytes f
  told (last n s) f = last_told n s f

  pub is_code : IsCode (code v)
  is_code = guess_code (write v) (fits v) (guess v) is_line_holds told
