-- How many bytes the text of a plan has at most, by the bytes of its module. What a module lists has
-- bytes of its own (core specification, 5.1), and a plan lists a fixed multiple of that.
use Rattle.std.specs.Prelude.{ℕ, ◌+◌, ◌*◌, ◌≤◌, List, length}
use Rattle.replay_spec.specs.Tables.{most_cells}
use Rattle.plan_text.specs.declared.plan.Plan.{Plan}
use Rattle.plan_text.specs.PlanText.{text_of_plan}
use Rattle.plan_laws.specs.TextCosts.{single_lines, lines_of, parts_in, cells_in, names_in, line_bytes, cell_bytes}

-- the most lines for a byte: a declared type has one, and so have it and the type of its
-- trampoline, their groups and their layouts
abbrev pub byte_lines : ℕ
byte_lines = 7

-- the most parts for a byte: a parameter is a part of its function type, of the type of its
-- trampoline, of the exception types of both, and of the layouts of these
abbrev pub byte_parts : ℕ
byte_parts = 6

abbrev pub most_lines : ℕ → ℕ
most_lines bytes = single_lines + byte_lines * bytes

abbrev pub most_parts : ℕ → ℕ
most_parts bytes = byte_parts * bytes

-- a byte of a name is one of the module
abbrev pub most_name_bytes : ℕ → ℕ
most_name_bytes bytes = bytes

-- each image of a table has a byte of the module, and at most `most_cells` cells
abbrev pub most_cells_in : ℕ → ℕ
most_cells_in bytes = most_cells * bytes

-- what a plan lists is linear in the bytes of its module, and so is its text without the cells of
-- images
pub record TextIsLinear (bytes : List ℕ) (plan : Plan) : Type 0 where
  pub lines : lines_of plan ≤ most_lines (length bytes)
  pub parts : parts_in plan ≤ most_parts (length bytes)
  pub names : names_in plan ≤ most_name_bytes (length bytes)
  pub cells : cells_in plan ≤ most_cells_in (length bytes)
  -- a byte makes lines, parts of lines or bytes of names; lines are the most, so that all bytes are
  -- counted as lines
  pub text : length (text_of_plan plan) ≤ line_bytes * most_lines (length bytes) + cell_bytes * cells_in plan
