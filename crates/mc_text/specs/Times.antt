-- A time as a listing shows it, as `ls -l` does it (POSIX.1-2017, ls, STDOUT; 180 days
-- and the `?` are our own).
use Rattle.std.specs.Prelude.{ℕ, ◌+◌, ◌-◌, ◌/◌, ◌%◌, Bool, ◌&&◌, nat_lt, nat_le, List, [], ◌∷◌, ◌++◌, codes}
use Rattle.std.specs.Prelude.{replicate, slice_index_or, ℤ, pos, negsuc, Option, Some, None, if◌then◌else◌}
use Rattle.mc_text.specs.declared.times.CivilTime.{CivilTime}
use Rattle.mc_text.specs.Civil.{civil_of}

-- the month, from 1 to 12, in three letters
abbrev pub month_text : ℕ → List ℕ
month_text month =
    slice_index_or (codes "Jan" ∷ codes "Feb" ∷ codes "Mar" ∷ codes "Apr" ∷ codes "May" ∷ codes "Jun"
    ∷ codes "Jul" ∷ codes "Aug" ∷ codes "Sep"
    ∷ codes "Oct" ∷ codes "Nov" ∷ codes "Dec" ∷ []) (month - 1) []

-- a number below 100 in two decimal digits
abbrev pub two_digits : ℕ → List ℕ
two_digits n = (48 + n / 10) ∷ (48 + n % 10) ∷ []

-- the same with a blank in place of a leading zero
abbrev pub two_places : ℕ → List ℕ
two_places n = (if nat_lt n 10 then 32 else 48 + n / 10) ∷ (48 + n % 10) ∷ []

-- a number below 10,000 in four decimal digits
abbrev pub four_digits : ℕ → List ℕ
four_digits n = two_digits (n / 100) ++ two_digits (n % 100)

-- the day in its month, and then the time of day or the year
abbrev pub civil_text : CivilTime → Bool → List ℕ
civil_text time is_recent =
    month_text time.month ++ 32 ∷ [] ++ two_places time.day
    ++ (if is_recent then 32 ∷ [] ++ two_digits time.hour ++ 58 ∷ [] ++ two_digits time.minute
    else 32 ∷ 32 ∷ [] ++ four_digits time.year)

-- a second is of the last 180 days
abbrev pub is_recent : ℕ → ℕ → Bool
is_recent secs now = nat_le secs now && nat_le now (secs + 15_552_000)

-- the second, where it is of the years 1970 to 2999
abbrev pub shown_second : ℤ → Option ℕ
shown_second (pos secs) = if nat_le secs 32_503_679_999 then Some secs else None
shown_second (negsuc _) = None

-- the text of a second that is shown, or twelve `?`
abbrev pub text_of_second : Option ℕ → ℕ → List ℕ
text_of_second None now = replicate 12 63
text_of_second (Some secs) now = civil_text (civil_of secs) (is_recent secs now)

-- the twelve bytes of a time, which is given in seconds since 1970
unfoldable pub time_text : ℤ → ℕ → List ℕ
time_text secs now = text_of_second (shown_second secs) now
