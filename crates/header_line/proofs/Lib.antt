mod HeaderForm
