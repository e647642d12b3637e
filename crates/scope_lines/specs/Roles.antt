-- What an item of a unit's body is to scopes. After "The stabs debug format" on block structure, procedures and variables.
use Rattle.std.specs.Prelude.{ℕ, Bool, if◌then◌else◌, ◌==◌, List, map}
use Rattle.stab_codes.specs.declared.code.TheConstants.{N_FUN, N_LBRAC, N_RBRAC}
use Rattle.stab_symbols.specs.declared.tree.Descriptor.{Descriptor}
use Rattle.stab_symbols.specs.declared.tree.Descriptor.TheVariants as descriptor
use Rattle.stab_units.specs.declared.unit.Item.{Item}
use Rattle.stab_units.specs.declared.unit.ItemText.{ItemText}
use Rattle.stab_units.specs.declared.unit.ItemText.TheVariants as text
use Rattle.scope_lines.specs.declared.role.Role.{Role}
use Rattle.scope_lines.specs.declared.role.Role.TheVariants.{Function, Opens, Closes, Parameter, Local, Static, Other}

-- the role of a symbol, by its descriptor; `f` and `F` count with the code N_FUN alone
abbrev pub symbol_role : Descriptor → Bool → ℕ → Role
symbol_role descriptor.StaticFun is_fun value = if is_fun then Function value else Other
symbol_role descriptor.GlobalFun is_fun value = if is_fun then Function value else Other
symbol_role descriptor.Param is_fun value = Parameter
symbol_role descriptor.RegParam is_fun value = Parameter
symbol_role descriptor.RefRegParam is_fun value = Parameter
symbol_role descriptor.RefParam is_fun value = Parameter
symbol_role descriptor.Stack is_fun value = Local
symbol_role descriptor.Register is_fun value = Local
symbol_role descriptor.ProcStatic is_fun value = Local
symbol_role descriptor.Global is_fun value = Static
symbol_role descriptor.FileStatic is_fun value = Static
symbol_role descriptor.Typedef is_fun value = Other
symbol_role descriptor.Tag is_fun value = Other
symbol_role descriptor.TagTypedef is_fun value = Other

-- what carries no symbol is nothing to scopes
abbrev pub text_role : ItemText → Bool → ℕ → Role
text_role (text.Symbol symbol) is_fun value = symbol_role symbol.descriptor is_fun value
text_role (text.Raw bytes) is_fun value = Other

-- brackets by their code, all else by its symbol
abbrev pub role_of : Item → Role
role_of item = if item.kind == N_LBRAC then Opens item.value else if item.kind == N_RBRAC then Closes item.value else text_role item.text (item.kind == N_FUN) item.value

-- the roles of the items of a body
abbrev pub roles : List Item → List Role
roles items = map role_of items
