-- What the bytes of a case's text are.
use Rattle.std.specs.Prelude.{ℕ, Bool, ◌==◌, ◌||◌, ◌&&◌, not}

abbrev pub is_line_end : ℕ → Bool
is_line_end byte = byte == 10

-- a space, a tab or a carriage return
abbrev pub is_blank : ℕ → Bool
is_blank byte = byte == 32 || byte == 9 || byte == 13

abbrev pub is_percent : ℕ → Bool
is_percent byte = byte == 37

-- `'` or `"`
abbrev pub is_quote : ℕ → Bool
is_quote byte = byte == 39 || byte == 34

-- `[` or `{`
abbrev pub is_opening : ℕ → Bool
is_opening byte = byte == 91 || byte == 123

-- `]` or `}`
abbrev pub is_closing : ℕ → Bool
is_closing byte = byte == 93 || byte == 125

-- `,` or `;`
abbrev pub is_parting : ℕ → Bool
is_parting byte = byte == 44 || byte == 59

-- `,`, `;`, a bracket, and outside brackets `=`
abbrev pub is_mark : Bool → ℕ → Bool
is_mark inside byte = is_parting byte || is_opening byte || is_closing byte || (byte == 61 && not inside)

-- a run of bytes goes on up to one of these
abbrev pub ends_run : Bool → ℕ → Bool
ends_run inside byte = is_blank byte || is_line_end byte || is_quote byte || is_percent byte || is_mark inside byte

-- inside brackets a number or a string is followed by one of these, or by nothing
abbrev pub may_follow : ℕ → Bool
may_follow byte = is_blank byte || is_line_end byte || is_parting byte || is_closing byte || is_percent byte
