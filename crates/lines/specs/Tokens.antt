-- Lines that are written from tokens. A code writes a token as a line and scans a line as a token. So a machine over tokens gives one over lines.
use Rattle.std.specs.Prelude.{ℕ, List, [], ◌∷◌, ◌++◌, map, Bool, true, false, cond, ◌&&◌, ◌≡◌, eqb}
use Rattle.lines.specs.Lines.{Line, is_line, every, joined}
use Rattle.lines.specs.Machine.{Machine, Step, refused, next, follow, after}
use Rattle.lines.specs.Reads.{Reads}

pub record Code (K : Type 0) : Type 0 where
  pub write : K → Line
  pub scan : Line → Step K
  -- whether a token can be written
  pub fits : K → Bool

-- a token that fits is written as a line and scanned again; a line that is scanned is the one that its token is written as
pub record IsCode {K : Type 0} (c : Code K) : Type 0 where
  pub is_line_holds : (k : K) → c.fits k ≡ true → is_line (c.write k) ≡ true
  pub written : (k : K) → c.fits k ≡ true → c.scan (c.write k) ≡ next k
  pub scanned : (l : Line) (k : K) → c.scan l ≡ next k → l ≡ c.write k
  pub scanned_fits : (l : Line) (k : K) → c.scan l ≡ next k → c.fits k ≡ true

module _ {K : Type 0} (c : Code K) where
  abbrev pub write_all : List K → List ℕ
  write_all ks = joined (map c.write ks)

  -- the machine that scans each line and takes its token
  abbrev pub over_lines : {W S : Type 0} → Machine W S K → Machine W S Line
  over_lines m = record {
    start = m.start;
    step = λ s l. follow (c.scan l) (m.step s) refused;
    final = m.final;
    built = m.built;
  }

-- ---- reading a language of tokens: the tokens of all good d

module _ {D W S K : Type 0} (good : D → Bool) (tokens : D → List K) (shows : D → W) (fits : K → Bool) (m : Machine W S K) where
  pub record ExtendsTokens (ks : List K) : Type 0 where
    pub made : D
    pub is_good_holds : good made ≡ true
    pub rest : List K
    pub goes : tokens made ≡ ks ++ rest

  pub record ClosesTokens (ks : List K) (v : W) : Type 0 where
    pub made : D
    pub is_good_holds : good made ≡ true
    pub are_tokens : tokens made ≡ ks
    pub is_shown : shows made ≡ v

  pub record TakesTokens (d : D) : Type 0 where
    pub fit : every fits (tokens d) ≡ true
    pub state : S
    pub reaches : after m m.start (tokens d) ≡ next state
    pub is_final : m.final state ≡ true
    pub is_built : m.built state ≡ shows d

  pub record ReadsTokens : Type 0 where
    pub takes : (d : D) → good d ≡ true → TakesTokens d
    pub extends : (ks : List K) (s : S) → every fits ks ≡ true → after m m.start ks ≡ next s → ExtendsTokens ks
    pub closes : (ks : List K) (s : S) → every fits ks ≡ true → after m m.start ks ≡ next s → m.final s ≡ true
        → ClosesTokens ks (m.built s)

-- a machine that reads a language of tokens reads the pages on which a code writes them
abbrev pub ByTokens : Type 1
ByTokens = (D W S K : Type 0) (good : D → Bool) (tokens : D → List K) (shows : D → W) (c : Code K) (m : Machine W S K)
    → IsCode c → ReadsTokens good tokens shows c.fits m → Reads good (λ d. write_all c (tokens d)) shows (over_lines c m)

-- ---- a code by a guess

unfoldable pub same : List ℕ → List ℕ → Bool
same [] [] = true
same [] (y ∷ ys) = false
same (x ∷ xs) [] = false
same (x ∷ xs) (y ∷ ys) = eqb x y && same xs ys

module _ {K : Type 0} (write : K → Line) (fits : K → Bool) (guess : Line → K) where
  -- a guessed token counts if it can be written, and is written as this line
  abbrev pub sure : Line → K → Step K
  sure l k = cond (fits k && same (write k) l) (next k) refused

  abbrev pub by_guess : Code K
  by_guess = record { write = write; scan = λ l. sure l (guess l); fits = fits }

  -- it is a code if every token that fits is written as a line and guessed from it
  abbrev pub GuessIsCode : Type 0
  GuessIsCode = ((k : K) → fits k ≡ true → is_line (write k) ≡ true) → ((k : K) → fits k ≡ true → guess (write k) ≡ k) → IsCode by_guess
