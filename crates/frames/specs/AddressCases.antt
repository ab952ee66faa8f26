-- Worked cases of the address: each of the 256 bytes at place 2 of a frame of each kind, and as the address of its record.
use Rattle.std.specs.Prelude.{ℕ, zero, suc, List, [], ◌∷◌, ◌++◌, ◌≡◌, replicate, set}
use Rattle.digits.specs.Text.{codes}
use Rattle.digits.specs.Refusals.{placed}
use Rattle.digits.specs.Told.{Told, gives, refuses}
use Rattle.frames.specs.Kind.{Kind, read, wrong_in, write_tried}
use Rattle.frames.specs.Request.{request}
use Rattle.frames.specs.Reply.{reply}
use Rattle.frames.specs.Dynamic.{dynamic}
use Rattle.frames.specs.RequestCases as Q
use Rattle.frames.specs.ReplyCases as P
use Rattle.frames.specs.DynamicCases as D

-- what f is of each number below n
abbrev pub each : (ℕ → ℕ) → ℕ → List ℕ
each f zero = []
each f (suc n) = each f n ++ (f n ∷ [])

-- for each byte from 0 to 255 this number: `own` at the eleven addresses, which are 32 and 48 to 57, and `other` at all other bytes
abbrev pub spread : ℕ → ℕ → List ℕ
spread own other = replicate 32 other ++ (own ∷ replicate 15 other) ++ replicate 10 own ++ replicate 198 other

-- the number of a refusal, or 0
abbrev pub number_of : {R : Type 0} → Told R → ℕ
number_of (gives r) = 0
number_of (refuses f) = f.number

-- a part of the record, or 0 if there is none
abbrev pub part_of : {R : Type 0} → (R → ℕ) → Told R → ℕ
part_of part (gives r) = part r
part_of part (refuses f) = 0

-- for each byte from 0 to 255 the address that a record then holds, or 0 if there is none
abbrev pub sent : List ℕ
sent = replicate 32 0 ++ (32 ∷ replicate 15 0) ++ codes "0123456789" ++ replicate 198 0

-- the answers to the frame s with each byte at place 2
abbrev pub answers : {R : Type 0} → Kind R → List ℕ → List ℕ
answers k s = each (λ b. number_of (read k (set s 2 b))) 256

pub record AddressWorked : Type 0 where
  -- a good frame is accepted with each address, and otherwise refused with ADDRESS, which is 4
  pub in_request : answers request Q.good ≡ spread 0 4
  pub in_reply : answers reply P.good ≡ spread 0 4
  pub in_dynamic : answers dynamic D.good ≡ spread 0 4
  -- the record holds the byte as it is
  pub held_by_request : each (λ b. part_of (λ r. r.address) (read request (set Q.good 2 b))) 256 ≡ sent
  pub held_by_reply : each (λ b. part_of (λ r. r.head.address) (read reply (set P.good 2 b))) 256 ≡ sent
  pub held_by_dynamic : each (λ b. part_of (λ r. r.address) (read dynamic (set D.good 2 b))) 256 ≡ sent
  -- with a wrong byte right after it, a good address leads to FIELD, which is 5, and any other byte still to ADDRESS
  pub before_field : answers request (Q.but 3 "[") ≡ spread 5 4
  pub before_reply_field : answers reply (set P.good 3 127) ≡ spread 5 4
  pub before_dynamic_field : answers dynamic (D.but 3 "[") ≡ spread 5 4
  -- a record is well formed with each address, and otherwise wrong at 2
  pub of_request : each (λ b. wrong_in request (Q.asks b 66 123 45678 81 231 156 89 65)) 256 ≡ spread 0 2
  pub of_reply : each (λ b. wrong_in reply (P.heads b 80 109 69 68 12345 23456 78 209 345 167 50)) 256 ≡ spread 0 2
  pub of_dynamic : each (λ b. wrong_in dynamic (D.orders b 67 98 34567 178 209 45678 193 214 1 452967890 7 8642 66)) 256 ≡ spread 0 2
  -- a wrong address is reported before a wrong part after it, at 3
  pub before_requester : each (λ b. wrong_in request (Q.asks b 64 123 45678 81 231 156 89 65)) 256 ≡ spread 3 2
  pub before_program : each (λ b. wrong_in reply (P.heads b 31 109 69 68 12345 23456 78 209 345 167 50)) 256 ≡ spread 3 2
  pub before_dynamic_requester : each (λ b. wrong_in dynamic (D.orders b 64 98 34567 178 209 45678 193 214 1 452967890 7 8642 66)) 256 ≡ spread 3 2
  -- writing such a record is refused with RECORD, which is 6, and the offset 2, also if there is no room
  pub request_refused : write_tried (wrong_in request (Q.asks 45 66 123 45678 81 231 156 89 65)) 24 24 ≡ refuses (placed 6 2)
  pub reply_refused_holds : write_tried (wrong_in reply (P.heads 45 80 109 69 68 12345 23456 78 209 345 167 50)) 51 51 ≡ refuses (placed 6 2)
  pub dynamic_refused : write_tried (wrong_in dynamic (D.orders 45 67 98 34567 178 209 45678 193 214 1 452967890 7 8642 66)) 46 46 ≡ refuses (placed 6 2)
  pub refused_without_room : write_tried (wrong_in request (Q.asks 45 66 123 45678 81 231 156 89 65)) 24 0 ≡ refuses (placed 6 2)
