mod SlotForms
