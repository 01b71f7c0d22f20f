-- A place in memory: [base+index*scale+displacement], or ds:displacement alone.
use Rattle.std.specs.Prelude.{ℕ, ◌-◌, ◌^◌, Bool, true, false, cond, ◌&&◌, List, [], ◌++◌, Some, None, codes, Option, nat_lt}
use Rattle.std.specs.Option.{is_none, unwrap_or}
use Rattle.x86.specs.declared.registers.Register.{Register}
use Rattle.x86.specs.declared.registers.Register.TheVariants.{Eax, Ecx, Edx, Ebx, Esp, Ebp, Esi, Edi}
use Rattle.x86.specs.declared.registers.Scale.{Scale}
use Rattle.x86.specs.declared.registers.Scale.TheVariants.{One, Two, Four, Eight}
use Rattle.x86.specs.declared.operands.Index.{Index}
use Rattle.x86.specs.declared.operands.Address.{Address}
use Rattle.syntax.specs.Names.{register_name, scale_name}
use Rattle.syntax.specs.Numbers.{number_text}

-- a displacement by its sign; nothing where the form has none
abbrev pub offset_text : Option ℕ → List ℕ
offset_text None = []
offset_text (Some d) = cond (nat_lt d (2 ^ 31)) (codes "+" ++ number_text d) (codes "-" ++ number_text (2 ^ 32 - d))

-- the register of an index, or what stands for none
abbrev pub index_name_of : Option Register → List ℕ
index_name_of None = codes "eiz"
index_name_of (Some r) = register_name r

-- an index register and its factor
abbrev pub index_text : Index → List ℕ
index_text i = index_name_of i.register ++ (codes "*" ++ scale_name i.scale)

-- a base that only a SIB byte can name
abbrev pub is_esp : Option Register → Bool
is_esp None = false
is_esp (Some Eax) = false
is_esp (Some Ecx) = false
is_esp (Some Edx) = false
is_esp (Some Ebx) = false
is_esp (Some Esp) = true
is_esp (Some Ebp) = false
is_esp (Some Esi) = false
is_esp (Some Edi) = false

-- the scale that changes nothing
abbrev pub is_one : Scale → Bool
is_one One = true
is_one Two = false
is_one Four = false
is_one Eight = false

-- an index that is there only since ESP as a base wants a SIB byte
abbrev pub is_implied : Option Register → Index → Bool
is_implied b i = is_esp b && (is_none i.register && is_one i.scale)

-- the index, unless it is implied
abbrev pub visible_index_of : Option Register → Option Index → Option Index
visible_index_of b None = None
visible_index_of b (Some i) = cond (is_implied b i) None (Some i)

-- base, index and displacement, each where there is one; the displacement alone is an offset in DS
abbrev pub place_text : Option Register → Option Index → Option ℕ → List ℕ
place_text None None d = codes "ds:" ++ number_text (unwrap_or d 0)
place_text (Some b) None d = codes "[" ++ (register_name b ++ (offset_text d ++ codes "]"))
place_text None (Some i) d = codes "[" ++ (index_text i ++ (offset_text d ++ codes "]"))
place_text (Some b) (Some i) d = codes "[" ++ (register_name b ++ (codes "+" ++ (index_text i ++ (offset_text d ++ codes "]"))))

-- a place in memory, without the index that is implied
abbrev pub address_text : Address → List ℕ
address_text a = place_text a.base (visible_index_of a.base a.index) a.displacement
