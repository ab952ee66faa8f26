-- The small list, by computation. Assumes nothing.
use Prim.Native.Nat.{ℕ, ◌+◌}
use Prim.Native.String.{String}
use mathlib.Core.Bool.{true}
use mathlib.Core.List.{List, [], ◌∷◌, ◌++◌}
use mathlib.Core.Path.{◌≡◌, refl, ap, ◌∙◌}
use lib.ListN.{length, drop, replicate}
use Rattle.digits.specs.Digits.{digits, number_at, number_from}
use Rattle.digits.specs.Text.{codes, one_of, place_of}
use Rattle.times.specs.Clock.{ticks_of}
use Rattle.frames.specs.Rules.{between, up_to, is_address, is_raw, is_requester, is_output}
use Rattle.frames.specs.Status.{is_status, status_place}
use Rattle.frames.specs.Shape.{all_from}
use Rattle.frames.specs.Layout.{fields_of}
use Rattle.frames.specs.Kind.{head_told, read}
use Rattle.frames.specs.Timing.{timing_kind, timed}
use Rattle.frames.specs.Request as Q
use Rattle.frames.specs.Reply as P
use Rattle.frames.specs.Dynamic as D
use Rattle.text.specs.Decimal.{width_within, width, decimal}
use Rattle.finder.specs.Leads.{is_lead}
use Rattle.finder.specs.Demands.{is_inner, is_open}
use Rattle.finder.proofs.Demands.{found_whole}
use Rattle.finder.specs.Pieces.{Piece, whole, cut, pieces, walk, pieces_from}
use Rattle.desk.specs.Below.{all_below, count_below, first}
use Rattle.desk.specs.Key.{same_key, is_key}
use Rattle.desk.specs.Hearing.{heard, ends, in_place}
use Rattle.desk.specs.Step.{step}
use Rattle.desk.specs.Seats.{keyed, seat_with, lowest_clear}
use Rattle.desk.specs.declared.capture.Counts.{Counts}
use Rattle.desk.specs.Memory.{Memory, capacity_of, records_of}
use Rattle.desk.specs.Tally.{held_of, entry_right, tally_right}
use Rattle.desk.specs.Desk.{is_zero, mark_names, last_ends, is_desk}
use Rattle.desk.specs.Calls.{key_tried, request_tried, open_tried, opens, seat_tried, label_tried, reply_tried, replies}
use Rattle.desk.specs.Capture.{meets, fates, after_all, how_many, counts_of}
use Rattle.text.specs.Address.{address_shown}
use Rattle.listing.specs.Text.{columns, row_text, end_text}
use Rattle.listing.specs.Listing.{store, seats_text, list_text, list_of}
use Rattle.listing.specs.Sizes.{longest_row, longest_end, longest_list}
use Rattle.listing.specs.Cases.{framed, small, ListWorked}

-- ---- the frames found, one after the other

abbrev closed : ℕ → String → List ℕ
closed lead text = framed lead text []

abbrev found : List Piece
found =
    whole 0 (closed 17 "R A00700000P000002000S")
    ∷ whole 24 (closed 17 "R3101200000P000002000S")
    ∷ whole 48 (closed 18 "R SORA0000700022003014015006P010203040506070809  ")
    ∷ whole 99 (closed 18 "R3SOR10001200009004001002003P111213141516171819  ")
    ∷ whole 150 (closed 19 "R 1A000410060016000025500000000000000000001S")
    ∷ whole 196 (closed 18 "R3SORA0000700033000002000000P000000000000000000  ")
    ∷ whole 247 (closed 18 "R SOEA0000700015003014015006P212223242526272829  ")
    ∷ cut 300 (18 ∷ codes "R S")
    ∷ []

next : (at : ℕ) (lead : ℕ) (text : String) (rest : List ℕ) (ps : List Piece) → is_open (lead ∷ codes text) ≡ true → drop at small ≡ (lead ∷ codes text) ++ (13 ∷ []) ++ rest
    → pieces_from small (at + length ((lead ∷ codes text) ++ (13 ∷ []))) ≡ ps → pieces_from small at ≡ whole at ((lead ∷ codes text) ++ (13 ∷ [])) ∷ ps
next at lead text rest ps o d h = found_whole small (lead ∷ codes text) rest at o d ∙ ap (λ (l : List Piece). whole at ((lead ∷ codes text) ++ (13 ∷ [])) ∷ l) h

last_piece : pieces_from small 298 ≡ cut 300 (18 ∷ codes "R S") ∷ []
unfolding one_of is_lead walk pieces_from
last_piece = refl

pieces_small : pieces small ≡ found
unfolding is_open is_inner is_lead one_of
pieces_small =
    next 0 17 "R A00700000P000002000S" _ _ refl refl
    (next 24 17 "R3101200000P000002000S" _ _ refl refl
    (next 48 18 "R SORA0000700022003014015006P010203040506070809  " _ _ refl refl
    (next 99 18 "R3SOR10001200009004001002003P111213141516171819  " _ _ refl refl
    (next 150 19 "R 1A000410060016000025500000000000000000001S" _ _ refl refl
    (next 196 18 "R3SORA0000700033000002000000P000000000000000000  " _ _ refl refl
    (next 247 18 "R SOEA0000700015003014015006P212223242526272829  " _ _ refl refl last_piece))))))

-- ---- what the desk holds after them, their counts, and the text

abbrev kept : Memory
kept = record {
  row = record { address = 32; requester = 65; number = 7; held = 2; ended = 1 } ∷ record { address = 51; requester = 49; number = 12; held = 1; ended = 0 } ∷ replicate 14 (record { address = 0; requester = 0; number = 0; held = 0; ended = 0 });
  bits = 3;
  count = 3;
  cells = closed 18 "R SORA0000700022003014015006P010203040506070809  " ++ (closed 18 "R3SOR10001200009004001002003P111213141516171819  " ++ (closed 18 "R SOEA0000700015003014015006P212223242526272829  " ++ replicate 51 0));
  marks = 0 ∷ 1 ∷ 0 ∷ 0 ∷ [];
  -- three with P: two R and one E
  tally = replicate 12 (replicate 3 0) ++ (2 ∷ 1 ∷ 0 ∷ []) ∷ replicate 20 (replicate 3 0);
}

abbrev four : Counts
four = record { opened = 2; collected = 3; dynamic = 1; refused = 2 }

after_small : after_all (store (replicate 204 0) (replicate 4 0)) found ≡ kept
unfolding number_at number_from one_of ticks_of between up_to is_address is_raw is_requester is_output all_from fields_of head_told read timing_kind timed Q.is_information Q.is_request_channel Q.request_fields is_status P.is_letter P.is_reply_channel P.least_run P.from_bib P.reply_fields D.is_order D.is_dynamic_channel D.least_period D.dynamic_fields all_below count_below first same_key is_key heard ends in_place keyed seat_with lowest_clear capacity_of is_zero mark_names last_ends place_of P.letter_place status_place held_of entry_right tally_right is_desk key_tried request_tried open_tried opens step seat_tried label_tried reply_tried replies meets fates after_all how_many
after_small = refl

counts_small : counts_of (fates (store (replicate 204 0) (replicate 4 0)) found) ≡ four
unfolding number_at number_from one_of ticks_of between up_to is_address is_raw is_requester is_output all_from fields_of head_told read timing_kind timed Q.is_information Q.is_request_channel Q.request_fields is_status P.is_letter P.is_reply_channel P.least_run P.from_bib P.reply_fields D.is_order D.is_dynamic_channel D.least_period D.dynamic_fields all_below count_below first same_key is_key heard ends in_place keyed seat_with lowest_clear capacity_of is_zero mark_names last_ends place_of P.letter_place status_place held_of entry_right tally_right is_desk key_tried request_tried open_tried opens step seat_tried label_tried reply_tried replies meets fates after_all how_many
counts_small = refl

text_small : list_text kept four
    ≡ codes "seat\tfrom\taddr\tnumber\tbib\tgroup\trun\tphys\tlog\tinfo\ttime\tdate\tstatus\n"
    ++ codes "0\tA\t-\t007\t00022\t003\t014\t015\t006\tP\t0102030405\t06070809\tR\n"
    ++ codes "0\tA\t-\t007\t00015\t003\t014\t015\t006\tP\t2122232425\t26272829\tE\n"
    ++ codes "1\t1\t3\t012\t00009\t004\t001\t002\t003\tP\t1112131415\t16171819\tR\n"
    ++ codes "end\t2\t3\t1\t2\n"
unfolding digits records_of width_within width decimal address_shown columns row_text end_text seats_text list_text
text_small = refl

longest_is : longest_list ≡ 14687
unfolding width_within width columns longest_row longest_end
longest_is = refl

pub list_worked : ListWorked
unfolding list_of address_shown
list_worked = record { small_list = rw (pieces_small, after_small, counts_small) text_small; addresses = refl; not_too_long = refl; too_long_case = refl; longest = longest_is }
