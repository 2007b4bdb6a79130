-- Page 01, 'Sheets worked by hand', one accepted sheet of each bus, and page 02, Ask 8: rings without M, as the definitions compute them. Assumes nothing.
use Prim.Native.Nat.{ℕ}
use mathlib.Core.Path.{◌≡◌, refl}
use mathlib.Core.List.{[], ◌∷◌, map}
use Rattle.sheet_record.specs.declared.Record.{Record}
use Rattle.sheet_rules.specs.Sheets.{longest_of, message_of, sheet_of}
use Rattle.sheet_rules.specs.Whole.{reading}
use Rattle.sheet_rules.specs.Whole.Outcome.{Read, Not}

-- empty: 1 at 0
empty : reading [] ≡ Not 1 0
unfolding reading sheet_of
empty = refl

-- one byte 99: 2 at 0
unknown : reading (99 ∷ []) ≡ Not 2 0
unfolding reading sheet_of
unknown = refl

-- 1, 0: 4 at 0
no_master : reading (1 ∷ 0 ∷ []) ≡ Not 4 0
unfolding reading sheet_of
no_master = refl

-- 1, 33: 4 at 0
too_many_masters : reading (1 ∷ 33 ∷ []) ≡ Not 4 0
unfolding reading sheet_of
too_many_masters = refl

-- 1, 4: 6 at 2
no_stream : reading (1 ∷ 4 ∷ []) ≡ Not 6 2
unfolding reading sheet_of
no_stream = refl

-- ---- One accepted sheet of each bus

rec : ℕ → ℕ → ℕ → ℕ → ℕ → Record
rec k a b c d = record { kind = k; a = a; b = b; c = c; d = d; e = 0 }

-- P-NET: N = 2; master 1, C 203, T 1,000, D 900
pnet :
    reading (1 ∷ 2 ∷ 2 ∷ 1 ∷ 0 ∷ 203 ∷ 0 ∷ 0 ∷ 3 ∷ 232 ∷ 0 ∷ 0 ∷ 3 ∷ 132 ∷ [])
    ≡ Read (record { head = rec 1 2 0 0 0; settings = []; streams = rec 2 1 203 1000 900 ∷ [] })
unfolding reading sheet_of rec
pnet = refl

-- PROFIBUS: n = 3, L 300, M 500; master 2, C 300, D 5,000
profibus :
    reading (3 ∷ 3 ∷ 0 ∷ 0 ∷ 1 ∷ 44 ∷ 0 ∷ 0 ∷ 1 ∷ 244 ∷ 4 ∷ 2 ∷ 0 ∷ 0 ∷ 1 ∷ 44 ∷ 0 ∷ 0 ∷ 19 ∷ 136 ∷ [])
    ≡ Read (record { head = rec 3 3 300 500 0; settings = []; streams = rec 4 2 300 5000 0 ∷ [] })
unfolding reading sheet_of message_of rec
profibus = refl

-- WorldFIP: E 400; identifier 17, period 1,000; identifier 18, period 2,000
worldfip :
    reading (5 ∷ 0 ∷ 0 ∷ 1 ∷ 144 ∷ 6 ∷ 0 ∷ 17 ∷ 0 ∷ 0 ∷ 3 ∷ 232 ∷ 6 ∷ 0 ∷ 18 ∷ 0 ∷ 0 ∷ 7 ∷ 208 ∷ [])
    ≡ Read (record { head = rec 5 400 0 0 0; settings = []; streams = rec 6 17 1000 0 0 ∷ rec 6 18 2000 0 0 ∷ [] })
unfolding reading sheet_of rec
worldfip = refl

-- the second with the first one's identifier: 7 at 12
same_identifier : reading (5 ∷ 0 ∷ 0 ∷ 1 ∷ 144 ∷ 6 ∷ 0 ∷ 17 ∷ 0 ∷ 0 ∷ 3 ∷ 232 ∷ 6 ∷ 0 ∷ 17 ∷ 0 ∷ 0 ∷ 7 ∷ 208 ∷ []) ≡ Not 7 12
unfolding reading sheet_of
same_identifier = refl

-- ---- What each master has

-- master 1 has the longest C of its two streams, whichever comes first; master 3 has no stream
longest_cycles : map (λ x. longest_of x (rec 2 1 500 1000 900 ∷ rec 2 2 600 1000 900 ∷ rec 2 1 203 1000 900 ∷ [])) (1 ∷ 2 ∷ 3 ∷ []) ≡ 500 ∷ 600 ∷ 0 ∷ []
unfolding longest_of rec
longest_cycles = refl

-- ---- Page 02, Ask 8: a ring whose masters each have their own longest message

-- L 100; the longest messages, in any order, of master 2, 9, and of master 1, 8; master 1, C 8, D 65,535
own_messages :
    reading (9 ∷ 2 ∷ 0 ∷ 0 ∷ 0 ∷ 100 ∷ 10 ∷ 2 ∷ 0 ∷ 0 ∷ 0 ∷ 9 ∷ 10 ∷ 1 ∷ 0 ∷ 0 ∷ 0 ∷ 8 ∷ 4 ∷ 1 ∷ 0 ∷ 0 ∷ 0 ∷ 8 ∷ 0 ∷ 0 ∷ 255 ∷ 255 ∷ [])
    ≡ Read (record { head = rec 9 2 100 0 0; settings = rec 10 2 9 0 0 ∷ rec 10 1 8 0 0 ∷ []; streams = rec 4 1 8 65535 0 ∷ [] })
unfolding reading sheet_of message_of rec
own_messages = refl

-- master 2 has none, and no stream either: 20 at the first stream
missing_at_stream : reading (9 ∷ 2 ∷ 0 ∷ 0 ∷ 0 ∷ 100 ∷ 10 ∷ 1 ∷ 0 ∷ 0 ∷ 0 ∷ 8 ∷ 4 ∷ 1 ∷ 0 ∷ 0 ∷ 0 ∷ 8 ∷ 0 ∷ 0 ∷ 255 ∷ 255 ∷ []) ≡ Not 20 12
unfolding reading sheet_of message_of
missing_at_stream = refl

-- nor does it matter which master it is, and whose the stream
missing_of_another : reading (9 ∷ 2 ∷ 0 ∷ 0 ∷ 0 ∷ 100 ∷ 10 ∷ 2 ∷ 0 ∷ 0 ∷ 0 ∷ 8 ∷ 4 ∷ 2 ∷ 0 ∷ 0 ∷ 0 ∷ 8 ∷ 0 ∷ 0 ∷ 255 ∷ 255 ∷ []) ≡ Not 20 12
unfolding reading sheet_of message_of
missing_of_another = refl

-- missing, and no stream: 20 at the end, before 6
missing_at_end : reading (9 ∷ 1 ∷ 0 ∷ 0 ∷ 0 ∷ 100 ∷ []) ≡ Not 20 6
unfolding reading sheet_of
missing_at_end = refl

-- none missing, and no stream: 6 at the end
ring_without_stream : reading (9 ∷ 1 ∷ 0 ∷ 0 ∷ 0 ∷ 100 ∷ 10 ∷ 1 ∷ 0 ∷ 0 ∷ 0 ∷ 1 ∷ []) ≡ Not 6 12
unfolding reading sheet_of
ring_without_stream = refl

-- L 100,001: 4 at 0
latency_too_great : reading (9 ∷ 1 ∷ 0 ∷ 1 ∷ 134 ∷ 161 ∷ []) ≡ Not 4 0
unfolding reading sheet_of
latency_too_great = refl

-- C above the master's own 500: 4, before 20 for master 2
above_its_own : reading (9 ∷ 2 ∷ 0 ∷ 0 ∷ 0 ∷ 100 ∷ 10 ∷ 1 ∷ 0 ∷ 0 ∷ 1 ∷ 244 ∷ 4 ∷ 1 ∷ 0 ∷ 0 ∷ 1 ∷ 245 ∷ 0 ∷ 0 ∷ 0 ∷ 9 ∷ []) ≡ Not 4 12
unfolding reading sheet_of message_of
above_its_own = refl

-- master 2 has none, which counts as 100,000 for 4: C 501 is within it, C 100,001 is not
within_the_missing : reading (9 ∷ 2 ∷ 0 ∷ 0 ∷ 0 ∷ 100 ∷ 10 ∷ 1 ∷ 0 ∷ 0 ∷ 1 ∷ 244 ∷ 4 ∷ 2 ∷ 0 ∷ 0 ∷ 1 ∷ 245 ∷ 0 ∷ 0 ∷ 0 ∷ 9 ∷ []) ≡ Not 20 12
unfolding reading sheet_of message_of
within_the_missing = refl

above_the_missing : reading (9 ∷ 2 ∷ 0 ∷ 0 ∷ 0 ∷ 100 ∷ 10 ∷ 1 ∷ 0 ∷ 0 ∷ 1 ∷ 244 ∷ 4 ∷ 2 ∷ 0 ∷ 1 ∷ 134 ∷ 161 ∷ 0 ∷ 0 ∷ 0 ∷ 9 ∷ []) ≡ Not 4 12
unfolding reading sheet_of message_of
above_the_missing = refl

-- the sheet ends inside a stream: 1, before 20
cut_stream : reading (9 ∷ 2 ∷ 0 ∷ 0 ∷ 0 ∷ 100 ∷ 10 ∷ 1 ∷ 0 ∷ 0 ∷ 1 ∷ 244 ∷ 4 ∷ 2 ∷ []) ≡ Not 1 12
unfolding reading sheet_of
cut_stream = refl

-- a longest message behind a stream: 3, before 20
message_behind_stream :
    reading (9 ∷ 1 ∷ 0 ∷ 0 ∷ 0 ∷ 100 ∷ 10 ∷ 1 ∷ 0 ∷ 0 ∷ 1 ∷ 244 ∷ 4 ∷ 1 ∷ 0 ∷ 0 ∷ 0 ∷ 1 ∷ 0 ∷ 0 ∷ 0 ∷ 9 ∷ 10 ∷ 1 ∷ 0 ∷ 0 ∷ 1 ∷ 244 ∷ []) ≡ Not 3 22
unfolding reading sheet_of message_of
message_behind_stream = refl

-- a longest message given again: 20 at it; out of range, 4 before that
message_again : reading (9 ∷ 1 ∷ 0 ∷ 0 ∷ 0 ∷ 100 ∷ 10 ∷ 1 ∷ 0 ∷ 0 ∷ 1 ∷ 244 ∷ 10 ∷ 1 ∷ 0 ∷ 0 ∷ 1 ∷ 244 ∷ []) ≡ Not 20 12
unfolding reading sheet_of
message_again = refl

message_again_of_0 : reading (9 ∷ 1 ∷ 0 ∷ 0 ∷ 0 ∷ 100 ∷ 10 ∷ 1 ∷ 0 ∷ 0 ∷ 1 ∷ 244 ∷ 10 ∷ 1 ∷ 0 ∷ 0 ∷ 0 ∷ 0 ∷ []) ≡ Not 4 12
unfolding reading sheet_of
message_again_of_0 = refl

-- behind a ring of kind 3, which has one for all masters: 3
message_behind_kind_3 : reading (3 ∷ 1 ∷ 0 ∷ 0 ∷ 0 ∷ 100 ∷ 0 ∷ 0 ∷ 1 ∷ 244 ∷ 10 ∷ 1 ∷ 0 ∷ 0 ∷ 1 ∷ 244 ∷ []) ≡ Not 3 10
unfolding reading sheet_of
message_behind_kind_3 = refl
