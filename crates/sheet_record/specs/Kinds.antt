-- Page 01, 'Sheet records', and page 02, Asks 7, 8 and 10: the kinds, a line each, and what a record of a kind is. Assumes nothing.
use Rattle.std.specs.Prelude.{ℕ, zero, suc, ◌+◌, ◌-◌, List, [], ◌∷◌, ◌++◌, Bool, true, false, cond, ◌&&◌, length, get_or, leb, eqb}
use Prim.Native.String.{String}
use Rattle.sheet_record.specs.declared.Met.{Met}
use Rattle.sheet_record.specs.declared.Given.{Given}
use Rattle.sheet_record.specs.declared.Record.{Record}
use Rattle.sheet_record.specs.Numbers.{be, digits}

-- ---- What a line of the page's table says

-- what a field is counted in: bit periods, those of PROFIBUS being its ring's own, or microseconds; masters, identifiers and editions have no unit
pub data Unit : Type 0 where
  no_unit : Unit
  bp : Unit
  us : Unit

-- a field's greatest value
pub data Limit : Type 0 where
  is : ℕ → Limit
  -- N or n, the masters of the sheet
  masters : Limit
  -- M, the longest message of the record's master
  message : Limit
  -- field i of the same record, counted from 0
  own : ℕ → Limit
  -- one less than it
  under : ℕ → Limit
  -- field i less field j
  less : ℕ → ℕ → Limit

-- a field: its width in bytes, its least value and its greatest, its unit
pub record Field : Type 0 where
  pub width : ℕ
  pub least : ℕ
  pub most : Limit
  pub unit : Unit

abbrev pub field : ℕ → ℕ → Limit → Unit → Field
field w lo hi u = record { width = w; least = lo; most = hi; unit = u }

-- how often a setting may stand
pub data Times : Type 0 where
  once : Times
  often : Times

-- a kind's part in a sheet
pub data Part : Type 0 where
  no_part : Part
  -- the first record of a sheet
  first : Part
  -- behind a first record of this kind, before the streams
  setting : ℕ → Times → Part
  -- behind the settings of its bus
  stream : Part

-- a bus has the number of its first record's kind on page 01
abbrev pub pnet : ℕ
pnet = 1

abbrev pub profibus : ℕ
profibus = 3

abbrev pub worldfip : ℕ
worldfip = 5

-- a line: the bus and the part of a kind, whether the writer puts it, its word where a sheet is text, its fields
pub record Kind : Type 0 where
  pub bus : ℕ
  pub part : Part
  pub written : Bool
  pub word : String
  pub fields : List Field

abbrev pub line : ℕ → Part → Bool → String → List Field → Kind
line b p w t fs = record { bus = b; part = p; written = w; word = t; fields = fs }

-- a kind that is not known
abbrev pub no_kind : Kind
no_kind = line 0 no_part false "" []

-- ---- The page's table, from kind 0 on, which is none

unfoldable pub kinds : List Kind
kinds =
    no_kind
    -- 1, P-NET segment: masters N
    ∷ line pnet first true "pnet-segment" (field 1 1 (is 32) no_unit ∷ [])
    -- 2, P-NET stream: master, longest cycle C, spacing T, deadline D up to T
    ∷ line pnet stream true "pnet-stream" (field 1 1 masters no_unit ∷ field 2 1 (is 1548) bp ∷ field 4 1 (is 1000000000) bp ∷ field 4 1 (own 2) bp ∷ [])
    -- 3, PROFIBUS ring with one longest message M for all masters: masters n, ring latency L, M; it is read and no longer written
    ∷ line profibus first false "" (field 1 1 (is 32) no_unit ∷ field 4 1 (is 100000) bp ∷ field 4 1 (is 100000) bp ∷ [])
    -- 4, PROFIBUS high-priority stream: master, cycle C, deadline D
    ∷ line profibus stream true "profibus-stream" (field 1 1 masters no_unit ∷ field 4 1 message bp ∷ field 4 1 (is 1000000000) bp ∷ [])
    -- 5, WorldFIP: one buffer exchange E
    ∷ line worldfip first true "worldfip-exchange" (field 4 1 (is 1000000) us ∷ [])
    -- 6, WorldFIP variable: identifier, period
    ∷ line worldfip stream true "worldfip-variable" (field 2 0 (is 65535) no_unit ∷ field 4 1 (is 1000000000) us ∷ [])
    -- 7, P-NET stream with release jitter: kind 2, D up to T - J, and J up to T - 1
    ∷ line pnet stream true "pnet-jitter-stream"
    (field 1 1 masters no_unit ∷ field 2 1 (is 1548) bp ∷ field 4 1 (is 1000000000) bp ∷ field 4 1 (less 2 4) bp ∷ field 4 0 (under 2) bp ∷ [])
    -- 8, edition of the P-NET rule, just behind the segment
    ∷ line pnet (setting pnet once) true "pnet-edition" (field 1 1 (is 2) no_unit ∷ [])
    -- 9, PROFIBUS ring whose masters each have their own longest message: masters n, ring latency L
    ∷ line profibus first true "profibus-ring" (field 1 1 (is 32) no_unit ∷ field 4 1 (is 100000) bp ∷ [])
    -- 10, the longest message of one master, behind kind 9 and before the streams: master, longest message
    ∷ line profibus (setting 9 often) true "profibus-message" (field 1 1 masters no_unit ∷ field 4 1 (is 100000) bp ∷ [])
    ∷ []

-- ---- What follows from a kind's line

unfoldable pub line_of : ℕ → Kind
unfolding kinds
line_of k = get_or kinds k no_kind

unfoldable pub fields_of : ℕ → List Field
unfolding line_of
fields_of k = (line_of k).fields

-- its bus, and 0 where the kind is not known
unfoldable pub bus_of : ℕ → ℕ
unfolding line_of
bus_of k = (line_of k).bus

unfoldable pub part_of : ℕ → Part
unfolding line_of
part_of k = (line_of k).part

abbrev pub is_first_part : Part → Bool
is_first_part no_part = false
is_first_part first = true
is_first_part (setting k t) = false
is_first_part stream = false

abbrev pub is_setting_part : Part → Bool
is_setting_part no_part = false
is_setting_part first = false
is_setting_part (setting k t) = true
is_setting_part stream = false

abbrev pub is_stream_part : Part → Bool
is_stream_part no_part = false
is_stream_part first = false
is_stream_part (setting k t) = false
is_stream_part stream = true

unfoldable pub is_first : ℕ → Bool
unfolding part_of
is_first k = is_first_part (part_of k)

unfoldable pub is_setting : ℕ → Bool
unfolding part_of
is_setting k = is_setting_part (part_of k)

unfoldable pub is_stream : ℕ → Bool
unfolding part_of
is_stream k = is_stream_part (part_of k)

-- the streams of a bus
unfoldable pub is_stream_of : ℕ → ℕ → Bool
unfolding is_stream bus_of
is_stream_of bus k = is_stream k && eqb (bus_of k) bus

-- known for writing: what the writer puts
unfoldable pub written : ℕ → Bool
unfolding line_of
written k = (line_of k).written

-- ---- A record's bytes

-- how long the bodies of these fields are
unfoldable pub widths : List Field → ℕ
widths [] = 0
widths (f ∷ fs) = f.width + widths fs

-- the length of a record, its kind byte counted
unfoldable pub size_of : ℕ → ℕ
unfolding widths fields_of
size_of k = 1 + widths (fields_of k)

-- known for reading: a kind to which the table gives a field
abbrev pub some : List Field → Bool
some [] = false
some (f ∷ fs) = true

unfoldable pub known : ℕ → Bool
unfolding fields_of
known k = some (fields_of k)

-- the number in field j, counted from 0, of those that stand from place `at` on; 0 past the last
unfoldable pub field_at : List ℕ → ℕ → List Field → ℕ → ℕ
unfolding be
field_at s at [] j = 0
field_at s at (f ∷ fs) zero = be s at f.width
field_at s at (f ∷ fs) (suc j) = field_at s (at + f.width) fs j

-- the record whose kind byte stands at a place
unfoldable pub decode : List ℕ → ℕ → Record
unfolding field_at fields_of
decode s at =
    record {
      kind = get_or s at 0;
      a = field_at s (at + 1) (fields_of (get_or s at 0)) 0;
      b = field_at s (at + 1) (fields_of (get_or s at 0)) 1;
      c = field_at s (at + 1) (fields_of (get_or s at 0)) 2;
      d = field_at s (at + 1) (fields_of (get_or s at 0)) 3;
      e = field_at s (at + 1) (fields_of (get_or s at 0)) 4;
    }

-- a record's numbers, in the order of the page
abbrev pub numbers : Record → List ℕ
numbers r = r.a ∷ r.b ∷ r.c ∷ r.d ∷ r.e ∷ []

-- the bytes of these numbers in these fields
unfoldable pub body : List Field → List ℕ → List ℕ
unfolding digits
body (f ∷ fs) (x ∷ xs) = digits f.width x ++ body fs xs
body (f ∷ fs) [] = []
body [] xs = []

-- the bytes of a record
unfoldable pub encode : Record → List ℕ
unfolding body fields_of
encode r = r.kind ∷ body (fields_of r.kind) (numbers r)

-- ---- A record that stands whole at a place

-- a known kind, and all its bytes
unfoldable pub whole : List ℕ → ℕ → Bool
unfolding known size_of
whole s at = known (get_or s at 0) && leb (at + size_of (get_or s at 0)) (length s)

-- no record
abbrev pub nothing : Record
nothing = record { kind = 0; a = 0; b = 0; c = 0; d = 0; e = 0 }

-- the record at a place and the place just after it; where no whole record of a known kind stands, `nothing` and the place itself
unfoldable pub met_at : List ℕ → ℕ → Met
unfolding whole decode size_of
met_at s at =
    cond (whole s at) (record { found = decode s at; next = at + size_of (get_or s at 0) }) (record { found = nothing; next = at })

-- the same for a record of one kind alone: `nothing` where another kind stands
unfoldable pub met_of : List ℕ → ℕ → ℕ → Met
unfolding met_at
met_of s at kind = cond (eqb (get_or s at 0) kind) (met_at s at) (record { found = nothing; next = at })

-- and for a stream of one bus
unfoldable pub stream_met : List ℕ → ℕ → ℕ → Met
unfolding met_at is_stream_of
stream_met s at bus = cond (is_stream_of bus (get_or s at 0)) (met_at s at) (record { found = nothing; next = at })

-- ---- Ranges

-- a limit as a number, for the record r, by what stands before it
unfoldable pub limit : Given → Record → Limit → ℕ
limit g r (is n) = n
limit g r masters = g.masters
limit g r message = g.message
limit g r (own i) = get_or (numbers r) i 0
limit g r (under i) = get_or (numbers r) i 0 - 1
limit g r (less i j) = get_or (numbers r) i 0 - get_or (numbers r) j 0

unfoldable pub within : ℕ → ℕ → ℕ → Bool
within lo x hi = leb lo x && leb x hi

-- each of these numbers in the range of its field, and 0 where there is no field
unfoldable pub ranged : Given → Record → List Field → List ℕ → Bool
unfolding within limit
ranged g r fs [] = true
ranged g r [] (x ∷ xs) = eqb x 0 && ranged g r [] xs
ranged g r (f ∷ fs) (x ∷ xs) = within f.least x (limit g r f.most) && ranged g r fs xs

-- every field of a record in its range
unfoldable pub in_range : Given → Record → Bool
unfolding ranged fields_of
in_range g r = ranged g r (fields_of r.kind) (numbers r)
